-- Figure 5 as a derivation whose judgements are the split's own: the type and the post of an expression are those of its row.
-- One constructor a word, in the printed order. Types agree as Agreement.antt says; 1 is the denominator. Locks are those of
-- Section 3.1.6: what a variable may show of the type of its let's value is VAR's own premise.
use Rattle.std.specs.Prelude.{◌≡◌, List, [], ◌∷◌, true, ℕ, ◌+◌, ◌≤◌, ◌<◌}
use Rattle.spec.specs.Expression.{Position, Expr, leaf, unary, binary, Procedure}
use Rattle.spec.specs.Split.{Map, Split}
use Rattle.spec.specs.declared.Signature.{Signature}
use Rattle.spec.specs.Maps.{◌+ᵐ◌, ◌×ᵐ◌, share}
use Rattle.spec.specs.Agreement.{agree}
use Rattle.spec.specs.Conditions.{Env, type_in, may_show, type, kind, post, body_start, kept_back, signature, map_at}
use Rattle.spec.specs.declared.TypeNumber.{TypeNumber}
use Rattle.spec.specs.declared.MapNumber.{MapNumber}
use Rattle.spec.specs.declared.Location.{Location}
use Rattle.spec.specs.declared.TypeLine.TheVariants as declared_type
use Rattle.spec.specs.declared.LeafWord.TheVariants.{Var, Int, Newtid, Newlock, Newsem, Newrwlock}
use Rattle.spec.specs.declared.UnaryWord.TheVariants.{While, Join, Ref, Read, Lock, Unlock, Post, Wait, Rdlock, Rdunlock, Wrlock, Wrunlock, Call}
use Rattle.spec.specs.declared.BinaryWord.TheVariants.{Let, If, Spawn, Write}

-- a map is at least another, number by number
infix 4 ◌⊒◌
pub data ◌⊒◌ : Map → Map → Type 0 where
  none : [] ⊒ []
  more : {a b : ℕ} {m n : Map} → b ≤ a → m ⊒ n → a ∷ m ⊒ b ∷ n

module _ (S : Split) where
  -- Derives Γ Ψ e: Γ, Ψ ⊢ e : type S e, post S e
  pub data Derives : Env → Map → Expr → Type 0 where
    VAR : {Γ : Env} {Ψ : Map} {k : Position} {v : ℕ}
        → may_show S (type S (leaf Var k v)) (type_in Γ v) ≡ true → post S (leaf Var k v) ≡ Ψ
        → Derives Γ Ψ (leaf Var k v)
    INT : {Γ : Env} {Ψ : Map} {k : Position} {v : ℕ}
        → kind S (leaf Int k v) ≡ declared_type.Int → post S (leaf Int k v) ≡ Ψ
        → Derives Γ Ψ (leaf Int k v)
    LET : {Γ : Env} {Ψ : Map} {k : Position} {v : ℕ} {e₁ e₂ : Expr}
        → Derives Γ Ψ e₁ → Derives ((v, type S e₁) ∷ Γ) (post S e₁) e₂ → agree S (type S (binary Let k v e₁ e₂)) (type S e₂) ≡ true
        → post S (binary Let k v e₁ e₂) ≡ post S e₂
        → Derives Γ Ψ (binary Let k v e₁ e₂)
    IF : {Γ : Env} {Ψ : Map} {k : Position} {v : ℕ} {e₁ e₂ : Expr}
        → Derives Γ Ψ e₁ → agree S (type S (binary If k v e₁ e₂)) (type S e₁) ≡ true → post S e₁ ⊒ post S (binary If k v e₁ e₂)
        → Derives Γ Ψ e₂ → agree S (type S (binary If k v e₁ e₂)) (type S e₂) ≡ true → post S e₂ ⊒ post S (binary If k v e₁ e₂)
        → Derives Γ Ψ (binary If k v e₁ e₂)
    WHILE : {Γ : Env} {Ψ : Map} {k : Position} {v : ℕ} {e₁ : Expr}
        → Derives Γ (post S (unary While k v e₁)) e₁ → post S e₁ ⊒ post S (unary While k v e₁)
        → Ψ ⊒ post S (unary While k v e₁) → kind S (unary While k v e₁) ≡ declared_type.Int
        → Derives Γ Ψ (unary While k v e₁)
    NEWT : {Γ : Env} {Ψ : Map} {k : Position} {v : ℕ} {K : MapNumber}
        → kind S (leaf Newtid k v) ≡ declared_type.Tid K → post S (leaf Newtid k v) ≡ Ψ
        → Derives Γ Ψ (leaf Newtid k v)
    SPAWN : {Γ : Env} {Ψ : Map} {k : Position} {v : ℕ} {K : MapNumber} {e₁ e₂ : Expr}
        → Derives Γ Ψ e₁ → kind S e₁ ≡ declared_type.Tid K → Derives Γ (body_start S (binary Spawn k v e₁ e₂)) e₂
        → post S e₂ ⊒ map_at S K → kind S (binary Spawn k v e₁ e₂) ≡ declared_type.Int
        → post S (binary Spawn k v e₁ e₂) +ᵐ body_start S (binary Spawn k v e₁ e₂) ≡ post S e₁
        → Derives Γ Ψ (binary Spawn k v e₁ e₂)
    JOIN : {Γ : Env} {Ψ : Map} {k : Position} {v : ℕ} {K : MapNumber} {e₁ : Expr}
        → Derives Γ Ψ e₁ → kind S e₁ ≡ declared_type.Tid K → kind S (unary Join k v e₁) ≡ declared_type.Int
        → post S (unary Join k v e₁) ≡ post S e₁ +ᵐ map_at S K
        → Derives Γ Ψ (unary Join k v e₁)
    REF : {Γ : Env} {Ψ : Map} {k : Position} {v : ℕ} {ρ : Location} {c : TypeNumber} {e₁ : Expr}
        → Derives Γ Ψ e₁ → kind S (unary Ref k v e₁) ≡ declared_type.Ref ρ c → agree S c (type S e₁) ≡ true
        → post S (unary Ref k v e₁) ≡ post S e₁
        → Derives Γ Ψ (unary Ref k v e₁)
    WRITE : {Γ : Env} {Ψ : Map} {k : Position} {v : ℕ} {ρ : Location} {c : TypeNumber} {e₁ e₂ : Expr}
        → Derives Γ Ψ e₁ → kind S e₁ ≡ declared_type.Ref ρ c → Derives Γ (post S e₁) e₂ → agree S c (type S e₂) ≡ true
        → S.header.denominator ≤ share (post S (binary Write k v e₁ e₂)) ρ → kind S (binary Write k v e₁ e₂) ≡ declared_type.Int
        → post S (binary Write k v e₁ e₂) ≡ post S e₂
        → Derives Γ Ψ (binary Write k v e₁ e₂)
    READ : {Γ : Env} {Ψ : Map} {k : Position} {v : ℕ} {ρ : Location} {c : TypeNumber} {e₁ : Expr}
        → Derives Γ Ψ e₁ → kind S e₁ ≡ declared_type.Ref ρ c → agree S c (type S (unary Read k v e₁)) ≡ true
        → 0 < share (post S (unary Read k v e₁)) ρ
        → post S (unary Read k v e₁) ≡ post S e₁
        → Derives Γ Ψ (unary Read k v e₁)
    NEWL : {Γ : Env} {Ψ : Map} {k : Position} {v : ℕ} {Kᵢ Kₒ : MapNumber}
        → kind S (leaf Newlock k v) ≡ declared_type.Lock Kᵢ Kₒ → post S (leaf Newlock k v) +ᵐ map_at S Kₒ ≡ Ψ
        → Derives Γ Ψ (leaf Newlock k v)
    LCK : {Γ : Env} {Ψ : Map} {k : Position} {v : ℕ} {Kᵢ Kₒ : MapNumber} {e₁ : Expr}
        → Derives Γ Ψ e₁ → kind S e₁ ≡ declared_type.Lock Kᵢ Kₒ → kind S (unary Lock k v e₁) ≡ declared_type.Int
        → post S (unary Lock k v e₁) ≡ post S e₁ +ᵐ map_at S Kᵢ
        → Derives Γ Ψ (unary Lock k v e₁)
    ULCK : {Γ : Env} {Ψ : Map} {k : Position} {v : ℕ} {Kᵢ Kₒ : MapNumber} {e₁ : Expr}
        → Derives Γ Ψ e₁ → kind S e₁ ≡ declared_type.Lock Kᵢ Kₒ → kind S (unary Unlock k v e₁) ≡ declared_type.Int
        → post S (unary Unlock k v e₁) +ᵐ map_at S Kₒ ≡ post S e₁
        → Derives Γ Ψ (unary Unlock k v e₁)
    -- section 3.1.4
    NEWSEM : {Γ : Env} {Ψ : Map} {k : Position} {v : ℕ} {K : MapNumber}
        → kind S (leaf Newsem k v) ≡ declared_type.Sem K → post S (leaf Newsem k v) ≡ Ψ
        → Derives Γ Ψ (leaf Newsem k v)
    POST : {Γ : Env} {Ψ : Map} {k : Position} {v : ℕ} {K : MapNumber} {e₁ : Expr}
        → Derives Γ Ψ e₁ → kind S e₁ ≡ declared_type.Sem K → kind S (unary Post k v e₁) ≡ declared_type.Int
        → post S (unary Post k v e₁) +ᵐ map_at S K ≡ post S e₁
        → Derives Γ Ψ (unary Post k v e₁)
    WAIT : {Γ : Env} {Ψ : Map} {k : Position} {v : ℕ} {K : MapNumber} {e₁ : Expr}
        → Derives Γ Ψ e₁ → kind S e₁ ≡ declared_type.Sem K → kind S (unary Wait k v e₁) ≡ declared_type.Int
        → post S (unary Wait k v e₁) ≡ post S e₁ +ᵐ map_at S K
        → Derives Γ Ψ (unary Wait k v e₁)
    -- Figure 8; N is the step's own number, and bounds the reading holds
    NEWRWLOCK : {Γ : Env} {Ψ : Map} {k : Position} {N : ℕ} {Kr Kw : MapNumber}
        → kind S (leaf Newrwlock k N) ≡ declared_type.Rwlock Kr Kw → map_at S Kw ⊒ N ×ᵐ map_at S Kr → post S (leaf Newrwlock k N) +ᵐ map_at S Kw ≡ Ψ
        → Derives Γ Ψ (leaf Newrwlock k N)
    RDLOCK : {Γ : Env} {Ψ : Map} {k : Position} {v : ℕ} {Kr Kw : MapNumber} {e₁ : Expr}
        → Derives Γ Ψ e₁ → kind S e₁ ≡ declared_type.Rwlock Kr Kw → kind S (unary Rdlock k v e₁) ≡ declared_type.Int
        → post S (unary Rdlock k v e₁) ≡ post S e₁ +ᵐ map_at S Kr
        → Derives Γ Ψ (unary Rdlock k v e₁)
    RDUNLOCK : {Γ : Env} {Ψ : Map} {k : Position} {v : ℕ} {Kr Kw : MapNumber} {e₁ : Expr}
        → Derives Γ Ψ e₁ → kind S e₁ ≡ declared_type.Rwlock Kr Kw → kind S (unary Rdunlock k v e₁) ≡ declared_type.Int
        → post S (unary Rdunlock k v e₁) +ᵐ map_at S Kr ≡ post S e₁
        → Derives Γ Ψ (unary Rdunlock k v e₁)
    WRLOCK : {Γ : Env} {Ψ : Map} {k : Position} {v : ℕ} {Kr Kw : MapNumber} {e₁ : Expr}
        → Derives Γ Ψ e₁ → kind S e₁ ≡ declared_type.Rwlock Kr Kw → kind S (unary Wrlock k v e₁) ≡ declared_type.Int
        → post S (unary Wrlock k v e₁) ≡ post S e₁ +ᵐ map_at S Kw
        → Derives Γ Ψ (unary Wrlock k v e₁)
    WRUNLOCK : {Γ : Env} {Ψ : Map} {k : Position} {v : ℕ} {Kr Kw : MapNumber} {e₁ : Expr}
        → Derives Γ Ψ e₁ → kind S e₁ ≡ declared_type.Rwlock Kr Kw → kind S (unary Wrunlock k v e₁) ≡ declared_type.Int
        → post S (unary Wrunlock k v e₁) +ᵐ map_at S Kw ≡ post S e₁
        → Derives Γ Ψ (unary Wrunlock k v e₁)
    -- section 3.1.3; the caller keeps a map back, and has it again afterwards
    CALL : {Γ : Env} {Ψ : Map} {k : Position} {f : ℕ} {e₁ : Expr}
        → Derives Γ Ψ e₁ → agree S (type S e₁) (signature S f).argument ≡ true
        → post S e₁ ≡ map_at S (signature S f).before +ᵐ kept_back S (unary Call k f e₁)
        → agree S (type S (unary Call k f e₁)) (signature S f).result ≡ true
        → post S (unary Call k f e₁) ≡ map_at S (signature S f).after +ᵐ kept_back S (unary Call k f e₁)
        → Derives Γ Ψ (unary Call k f e₁)

  -- a body that does what its signature says: x is as if a let had bound it, `before` is its pre, and it leaves at least `after`
  pub record BodyDerives (g : Signature) (p : Procedure) : Type 0 where
    pub derives : Derives ((p.parameter, g.argument) ∷ []) (map_at S g.before) p.body
    pub result : agree S (type S p.body) g.result ≡ true
    pub after : post S p.body ⊒ map_at S g.after

  -- each of the procedures from number f on, with the signature of its number
  pub data BodiesDerive : (f : ℕ) → List Procedure → Type 0 where
    no_procedures : {f : ℕ} → BodiesDerive f []
    procedure : {f : ℕ} {p : Procedure} {ps : List Procedure} → BodyDerives (signature S f) p → BodiesDerive (f + 1) ps → BodiesDerive f (p ∷ ps)
