-- The path of a call is where its body stands: right after the call the body is there, and as long as it is no value, what comes next is
-- inside it and stays there.
use Rattle.std.proofs.Common.{None, Some}
use Prim.Native.Nat.{ℕ}
use mathlib.Core.Path.{◌≡◌, refl, sym, ◌∙◌, ap, subst}
use mathlib.Core.Bool.{false}
use mathlib.Core.List.{[], ◌∷◌, ◌++◌, append-nil}
use native.Mathlib.Omega.{arith}
use Rattle.spec.proofs.Clashes.{true_is_not_false}
use Rattle.calculus.specs.Expression.{Value, Unary, Exp, value, var, let_in, if, while, spawn, write, unary, nullary, Redex, let_redex, spawn_redex, write_redex, unary_redex, Next, is_value, at_variable, at_word, next_word, plug, if_value, once}
use Rattle.calculus.specs.State.{Part, first, second}
use Rattle.calculus.specs.Reduction.{word_of}
use Rattle.calculus.proofs.Laws.Maps.{some_injective, none_is_not_some}
use Rattle.replay_theory.specs.Paths as path
use Rattle.replay_theory.specs.Paths.{Path, next_path, only_part, part_of, part_at}
use Rattle.replay_theory.specs.Run.{has_finished}
use Rattle.replay_theory.specs.Claim.{Runs, BodyGoesOn}

no_word : {A : Type 0} {n : Next} {r : Redex} → word_of n ≡ None → n ≡ at_word r → A
no_word silent h = none_is_not_some (sym silent ∙ ap word_of h)

-- ---- A word that waits for a part

-- `around E` wants its part E, which is its part c, to be a value. Then `next` comes, at the path `here`.
record Wants (around : Exp → Exp) (c : Part) (next : Value → Next) (here : Path) : Type 0 where
  part : (E : Exp) (p : Path) → part_at (c ∷ p) (around E) ≡ part_at p E
  word : (E : Exp) → next_word (around E) ≡ once (next_word E) next
  path_to : (E : Exp) → next_path (around E) ≡ path.path_once (next_word E) here (c ∷ next_path E)

let_wants : (x : ℕ) (e₂ : Exp) → Wants (λ E. let_in x E e₂) first (λ v. at_word (let_redex x v e₂)) []
unfolding part_at part_of next_path
let_wants x e₂ = record { part = λ E p. refl; word = λ E. refl; path_to = λ E. refl }

spawn_wants : (e₂ : Exp) → Wants (λ E. spawn E e₂) first (λ v. at_word (spawn_redex v e₂)) []
unfolding part_at part_of next_path
spawn_wants e₂ = record { part = λ E p. refl; word = λ E. refl; path_to = λ E. refl }

unary_wants : (o : Unary) → Wants (λ E. unary o E) first (λ v. at_word (unary_redex o v)) []
unfolding part_at part_of only_part next_path
unary_wants o = record { part = λ E p. refl; word = λ E. refl; path_to = λ E. refl }

first_wants : (e₂ : Exp) → Wants (λ E. write E e₂) first (λ v. once (next_word e₂) λ w. at_word (write_redex v w))
    (path.path_once (next_word e₂) [] (second ∷ next_path e₂))
unfolding part_at part_of next_path
first_wants e₂ = record { part = λ E p. refl; word = λ E. refl; path_to = λ E. refl }

-- The second part of a `write`, once the first is a value.
second_wants : (e₁ : Exp) (v : Value) → next_word e₁ ≡ is_value v → Wants (λ E. write e₁ E) second (λ w. at_word (write_redex v w)) []
unfolding part_at part_of next_path path.path_once
second_wants e₁ v is = record {
  part = λ E p. refl;
  word = λ E. ap (λ (n : Next). once n λ u. once (next_word E) λ w. at_word (write_redex u w)) is;
  path_to = λ E. ap (λ (n : Next). path.path_once n (path.path_once (next_word E) [] (second ∷ next_path E)) (first ∷ next_path e₁)) is;
}

-- ---- The body is there

module _ (b : Exp) where
  abbrev BodyThere : Exp → Type 0
  BodyThere e = (r : Redex) → next_word e ≡ at_word r → part_at (next_path e) (plug e b) ≡ Some b

  in_part : {around : Exp → Exp} {c : Part} {next : Value → Next} {here : Path} (W : Wants around c next here) (e : Exp) → BodyThere e → (r : Redex) →
      once (next_word e) next ≡ at_word r → (done : Exp) → ((v : Value) → next_word e ≡ is_value v → next v ≡ at_word r → part_at here done ≡ Some b) →
      part_at (path.path_once (next_word e) here (c ∷ next_path e)) (if_value (next_word e) done (around (plug e b))) ≡ Some b
  unfolding path.path_once
  in_part {around} {c} {next} {here} W e later r h done values = by_next (next_word e) refl h
    where
      by_next : (n : Next) → next_word e ≡ n → once n next ≡ at_word r →
          part_at (path.path_once n here (c ∷ next_path e)) (if_value n done (around (plug e b))) ≡ Some b
      by_next (is_value v) is h = values v is h
      by_next (at_variable x) is h = no_word refl h
      by_next (at_word w) is h = W.part (plug e b) (next_path e) ∙ later w is

  pub body_is_there : (e : Exp) (r : Redex) → next_word e ≡ at_word r → part_at (next_path e) (plug e b) ≡ Some b
  unfolding next_path part_at
  body_is_there (value v) r h = no_word refl h
  body_is_there (var x) r h = no_word refl h
  body_is_there (let_in x e₁ e₂) r h = in_part (let_wants x e₂) e₁ (body_is_there e₁) r h b (λ v is k. refl)
  body_is_there (if e₁ e₂) r h = refl
  body_is_there (while e) r h = refl
  body_is_there (spawn e₁ e₂) r h = in_part (spawn_wants e₂) e₁ (body_is_there e₁) r h b (λ v is k. refl)
  body_is_there (write e₁ e₂) r h =
      in_part (first_wants e₂) e₁ (body_is_there e₁) r h _ (λ v is k. in_part (second_wants e₁ v is) e₂ (body_is_there e₂) r k b (λ u _ l. refl))
  body_is_there (unary o e) r h = in_part (unary_wants o) e (body_is_there e) r h b (λ v is k. refl)
  body_is_there (nullary o) r h = refl

-- ---- It goes on there

-- In the expression e, whose next word is r, d stands at the path p, and a reduct b takes the place of r. Then r is the next word of d; d
-- with the reduct in it stands at p; and if that is no value, p leads to what is next again.
record GoesOn (b e : Exp) (p : Path) (d : Exp) (r : Redex) : Type 0 where
  inside : next_word d ≡ at_word r
  there : part_at p (plug e b) ≡ Some (plug d b)
  leads : (n : Next) → has_finished n ≡ false → next_word (plug d b) ≡ n → (next_word (plug e b) ≡ n) × (next_path (plug e b) ≡ p ++ next_path (plug d b))

empty_clash : {A : Type 0} {c : Part} {p : Path} → [] ≡ c ∷ p → A
empty_clash h = let z : ◌≡◌ {A = ℕ} 0 1 = ap marked h in absurd (omega (arith, z))
  where
    marked : Path → ℕ
    marked [] = 0
    marked (c ∷ p) = 1

heads : {c d : Part} {p q : Path} → c ∷ p ≡ d ∷ q → c ≡ d
heads h = cc

tails : {c d : Part} {p q : Path} → c ∷ p ≡ d ∷ q → p ≡ q
tails h = cc

-- What is no value is waited for.
once_waits : (n : Next) (then : Value → Next) → has_finished n ≡ false → once n then ≡ n
unfolding has_finished
once_waits (is_value v) then h = true_is_not_false h
once_waits (at_variable x) then h = refl
once_waits (at_word w) then h = refl

path_waits : (n : Next) (here inside : Path) → has_finished n ≡ false → path.path_once n here inside ≡ inside
unfolding has_finished path.path_once
path_waits (is_value v) here inside h = true_is_not_false h
path_waits (at_variable x) here inside h = refl
path_waits (at_word w) here inside h = refl

module _ (b : Exp) where
  abbrev Claim : Exp → Type 0
  Claim e = (p rest : Path) (d : Exp) (r : Redex) → next_word e ≡ at_word r → next_path e ≡ p ++ rest → part_at p e ≡ Some d → GoesOn b e p d r

  here_goes_on : (e d : Exp) (r : Redex) → next_word e ≡ at_word r → part_at [] e ≡ Some d → GoesOn b e [] d r
  unfolding part_at
  here_goes_on e d r h is = subst (λ (x : Exp). GoesOn b e [] x r) (some_injective is) (record { inside = h; there = refl; leads = λ n busy k. (k, refl) })

  -- Of a whole, its next word and the path to that: d stands at c ∷ p on the path, and r is the next word.
  record OnPath (whole : Exp) (next : Next) (to : Path) (c : Part) (p rest : Path) (d : Exp) (r : Redex) : Type 0 where
    word : next ≡ at_word r
    leads : to ≡ c ∷ (p ++ rest)
    there : part_at (c ∷ p) whole ≡ Some d

  -- E is the whole with the reduct in it.
  abbrev Whole : (E : Exp) (c : Part) (p : Path) (d : Exp) (r : Redex) → Type 0
  Whole E c p d r = (next_word d ≡ at_word r) × (part_at (c ∷ p) E ≡ Some (plug d b))
      × ((n : Next) → has_finished n ≡ false → next_word (plug d b) ≡ n → (next_word E ≡ n) × (next_path E ≡ (c ∷ p) ++ next_path (plug d b)))

  module _ {around : Exp → Exp} {c₀ : Part} {next : Value → Next} {here : Path} (W : Wants around c₀ next here) (e₁ : Exp) (later : Claim e₁)
      {c : Part} {p rest : Path} {d : Exp} {r : Redex} where
    -- The part is waited for.
    into_part : {w : Redex} → next_word e₁ ≡ at_word w → OnPath (around e₁) (at_word w) (c₀ ∷ next_path e₁) c p rest d r → Whole (around (plug e₁ b)) c p d r
    unfolding path.path_once
    into_part {w} is X =
        let is_c : c₀ ≡ c = heads X.leads in
        let G = later p rest d w is (tails X.leads) (sym (W.part e₁ p) ∙ ap (λ (z : Part). part_at (z ∷ p) (around e₁)) is_c ∙ X.there) in (
          G.inside ∙ X.word,
          ap (λ (z : Part). part_at (z ∷ p) (around (plug e₁ b))) (sym is_c) ∙ W.part (plug e₁ b) p ∙ G.there,
          λ n busy k.
              let (next_again, path_again) = G.leads n busy k in (
                W.word (plug e₁ b) ∙ ap (λ (m : Next). once m next) next_again ∙ once_waits n next busy,
                W.path_to (plug e₁ b)
                    ∙ ap (λ (m : Next). path.path_once m here (c₀ ∷ next_path (plug e₁ b))) next_again
                    ∙ path_waits n here (c₀ ∷ next_path (plug e₁ b)) busy
                    ∙ (λ z. is_c z ∷ path_again z),
              ),
        )

    by_part : OnPath (around e₁) (once (next_word e₁) next) (path.path_once (next_word e₁) here (c₀ ∷ next_path e₁)) c p rest d r →
        (done : Exp) → ((v : Value) → next_word e₁ ≡ is_value v → OnPath (around e₁) (next v) here c p rest d r → Whole done c p d r) →
        Whole (if_value (next_word e₁) done (around (plug e₁ b))) c p d r
    unfolding path.path_once
    by_part X done values = by_next (next_word e₁) refl X
      where
        by_next : (n : Next) → next_word e₁ ≡ n → OnPath (around e₁) (once n next) (path.path_once n here (c₀ ∷ next_path e₁)) c p rest d r →
            Whole (if_value n done (around (plug e₁ b))) c p d r
        by_next (is_value v) e X = values v e X
        by_next (at_variable x) e X = no_word refl X.word
        by_next (at_word w) e X = into_part e X

  by_path : (e : Exp) → ((c : Part) (p rest : Path) (d : Exp) (r : Redex) → OnPath e (next_word e) (next_path e) c p rest d r → Whole (plug e b) c p d r) →
      Claim e
  by_path e inner [] rest d r h q is = here_goes_on e d r h is
  by_path e inner (c ∷ p) rest d r h q is =
      let (inside, there, leads) = inner c p rest d r (record { word = h; leads = q; there = is }) in
      record { inside = inside; there = there; leads = leads }

  -- The next word is here, and no path leads on.
  at_once : (e : Exp) → next_path e ≡ [] → Claim e
  at_once e h = by_path e (λ c p rest d r X. empty_clash (sym h ∙ X.leads))

  part_goes_on : (e : Exp) → Claim e
  unfolding next_path
  part_goes_on (value v) = at_once (value v) refl
  part_goes_on (var x) = at_once (var x) refl
  part_goes_on (let_in x e₁ e₂) = by_path (let_in x e₁ e₂) (λ c p rest d r X.
      by_part (let_wants x e₂) e₁ (part_goes_on e₁) X b (λ v is Y. empty_clash Y.leads))
  part_goes_on (if e₁ e₂) = at_once (if e₁ e₂) refl
  part_goes_on (while e) = at_once (while e) refl
  part_goes_on (spawn e₁ e₂) = by_path (spawn e₁ e₂) (λ c p rest d r X.
      by_part (spawn_wants e₂) e₁ (part_goes_on e₁) X b (λ v is Y. empty_clash Y.leads))
  part_goes_on (write e₁ e₂) = by_path (write e₁ e₂) (λ c p rest d r X.
      by_part (first_wants e₂) e₁ (part_goes_on e₁) X _ (λ v is Y.
      by_part (second_wants e₁ v is) e₂ (part_goes_on e₂) Y b (λ u _ Z. empty_clash Z.leads)))
  part_goes_on (unary o e) = by_path (unary o e) (λ c p rest d r X. by_part (unary_wants o) e (part_goes_on e) X b (λ v is Y. empty_clash Y.leads))
  part_goes_on (nullary o) = at_once (nullary o) refl

pub body_goes_on : BodyGoesOn
body_goes_on b e p d w next R =
    let G = part_goes_on b e p (next_path d) d w next R.path R.there in (
      G.there,
      λ going.
          let (again, path) = G.leads (next_word (plug d b)) going refl in
          record { there = G.there; going = going; next = again; path = path },
    )

-- ---- It begins there

abbrev WordThere : Exp → Type 0
WordThere e = (r : Redex) → next_word e ≡ at_word r → (d : Exp) × (part_at (next_path e) e ≡ Some d)

word_in_part : {around : Exp → Exp} {c : Part} {next : Value → Next} {here : Path} (W : Wants around c next here) (e : Exp) → WordThere e → (r : Redex) →
    once (next_word e) next ≡ at_word r → ((v : Value) → next_word e ≡ is_value v → next v ≡ at_word r → (d : Exp) × (part_at here (around e) ≡ Some d)) →
    (d : Exp) × (part_at (path.path_once (next_word e) here (c ∷ next_path e)) (around e) ≡ Some d)
unfolding path.path_once
word_in_part {around} {c} {next} {here} W e later r h values = by_next (next_word e) refl h
  where
    by_next : (n : Next) → next_word e ≡ n → once n next ≡ at_word r → (d : Exp) × (part_at (path.path_once n here (c ∷ next_path e)) (around e) ≡ Some d)
    by_next (is_value v) is h = values v is h
    by_next (at_variable x) is h = no_word refl h
    by_next (at_word w) is h = let (d, there) = later w is in (d, W.part e (next_path e) ∙ there)

-- The next word stands at its path.
word_is_there : (e : Exp) (r : Redex) → next_word e ≡ at_word r → (d : Exp) × (part_at (next_path e) e ≡ Some d)
unfolding next_path part_at
word_is_there (value v) r h = no_word refl h
word_is_there (var x) r h = no_word refl h
word_is_there (let_in x e₁ e₂) r h = word_in_part (let_wants x e₂) e₁ (word_is_there e₁) r h (λ v is k. (_, refl))
word_is_there (if e₁ e₂) r h = (_, refl)
word_is_there (while e) r h = (_, refl)
word_is_there (spawn e₁ e₂) r h = word_in_part (spawn_wants e₂) e₁ (word_is_there e₁) r h (λ v is k. (_, refl))
word_is_there (write e₁ e₂) r h =
    word_in_part (first_wants e₂) e₁ (word_is_there e₁) r h (λ v is k. word_in_part (second_wants e₁ v is) e₂ (word_is_there e₂) r k (λ u _ l. (_, refl)))
word_is_there (unary o e) r h = word_in_part (unary_wants o) e (word_is_there e) r h (λ v is k. (_, refl))
word_is_there (nullary o) r h = (_, refl)

-- What takes the place of the next word is what runs next, unless it is a value.
pub body_begins : (b e : Exp) (w : Redex) → next_word e ≡ at_word w → has_finished (next_word b) ≡ false → Runs (plug e b) (next_path e) b
body_begins b e w next going =
    let (d, there) = word_is_there e w next in
    let G = part_goes_on b e (next_path e) [] d w next (sym (append-nil (next_path e))) there in
    let b_there = body_is_there b e w next in
    let same : plug d b ≡ b = some_injective (sym G.there ∙ b_there) in
    let (again, path) = G.leads (next_word b) going (ap next_word same) in
    record { there = b_there; going = going; next = again; path = path ∙ ap (λ (x : Exp). next_path e ++ next_path x) same }
