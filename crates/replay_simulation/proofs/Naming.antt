-- What the names name, after a store of one thing: by that name the new thing, by all others what they named.
use Prim.Native.Nat.{ℕ, suc, ◌+◌, ◌<◌, ◌≤◌}
use mathlib.Core.Path.{◌≡◌, sym, ◌∙◌, ap, subst}
use mathlib.Core.Logic.{◌≢◌}
use mathlib.Core.List.{List}
use native.Mathlib.Omega.{arith}
use native.Mathlib.Decide.{ℕ_discrete, dec_lt}
use borrow.Author.Tests.{lt-ltb, le-ltb}
use lib.ListN.{length, get_or, set, length-set}
use lib.Seq.{get_or-set_same, get_or-set_other}
use Rattle.calculus.specs.Expression.{Value, int, name, choose}
use Rattle.calculus.specs.State as state
use Rattle.calculus.specs.State.{unused, update}
use Rattle.calculus.proofs.Laws.Maps.{update_other}
use Rattle.replay_control.specs.Layout.{thing_counts_at, next_value_at, thing_kinds_at, thing_firsts_at, thing_seconds_at, space_size}
use Rattle.replay_objects.specs.declared.Thing.{Thing}
use Rattle.replay_objects.specs.Stored.{slot, numbers_of, thing_of}
use Rattle.replay_objects.proofs.Stored.{thing_read, Plain, numbers_plain}
use Rattle.replay_step.specs.Slots.{thing_at, slot_put, thing_put}
use Rattle.replay_theory.specs.Run.{ObjectKind, cells, locks, rwlocks, semaphores, identifiers, next_name}
use Rattle.replay_simulation.proofs.Held.{code_value}
use Rattle.replay_simulation.proofs.Agreeing.{Agree, agree_then, agree_shared}
use Rattle.replay_simulation.proofs.Holds.{slot_at, thing_told, coded, NamesHeld, kind_code, kind_low}

-- ------------------------------------------------------------------ one thing

pub thing_put_length : (s : List ℕ) (v : ℕ) (x : Thing) → length (thing_put s v x) ≡ length s
unfolding thing_put slot_put
thing_put_length s v x =
    length-set (set (set s (thing_kinds_at + v) (numbers_of x).kind) (thing_firsts_at + v) (numbers_of x).first) (thing_seconds_at + v) (numbers_of x).second
    ∙ length-set (set s (thing_kinds_at + v) (numbers_of x).kind) (thing_firsts_at + v) (numbers_of x).first
    ∙ length-set s (thing_kinds_at + v) (numbers_of x).kind

module _ (s : List ℕ) (v : ℕ) (x : Thing) (low : v < 322) where
  abbrev s₁ : List ℕ
  s₁ = set s (thing_kinds_at + v) (numbers_of x).kind

  abbrev s₂ : List ℕ
  s₂ = set s₁ (thing_firsts_at + v) (numbers_of x).first

  -- another place
  pub put_elsewhere : (j : ℕ) → j ≢ thing_kinds_at + v → j ≢ thing_firsts_at + v → j ≢ thing_seconds_at + v → get_or (thing_put s v x) j 0 ≡ get_or s j 0
  unfolding thing_put slot_put
  put_elsewhere j a b c =
      get_or-set_other s₂ (thing_seconds_at + v) j (numbers_of x).second 0 c ∙ get_or-set_other s₁ (thing_firsts_at + v) j (numbers_of x).first 0 b ∙ get_or-set_other s (thing_kinds_at + v) j (numbers_of x).kind 0 a

  pub slot_here : length s ≡ space_size → slot_at (thing_put s v x) v ≡ numbers_of x
  unfolding slot_at thing_put slot_put
  slot_here long = rw (lt-ltb v 322 low) (λ z. slot (kind z) (first z) (second z))
    where
      long₁ : length s₁ ≡ space_size
      long₁ = length-set s (thing_kinds_at + v) (numbers_of x).kind ∙ long

      long₂ : length s₂ ≡ space_size
      long₂ = length-set s₁ (thing_firsts_at + v) (numbers_of x).first ∙ long₁

      kind : get_or (set s₂ (thing_seconds_at + v) (numbers_of x).second) (thing_kinds_at + v) 0 ≡ (numbers_of x).kind
      kind = get_or-set_other s₂ (thing_seconds_at + v) (thing_kinds_at + v) (numbers_of x).second 0 (λ e. omega (arith, e)) ∙ get_or-set_other s₁ (thing_firsts_at + v) (thing_kinds_at + v) (numbers_of x).first 0 (λ e. omega (arith, e)) ∙ get_or-set_same s (thing_kinds_at + v) (numbers_of x).kind 0 (omega (arith, long, low))

      first : get_or (set s₂ (thing_seconds_at + v) (numbers_of x).second) (thing_firsts_at + v) 0 ≡ (numbers_of x).first
      first = get_or-set_other s₂ (thing_seconds_at + v) (thing_firsts_at + v) (numbers_of x).second 0 (λ e. omega (arith, e)) ∙ get_or-set_same s₁ (thing_firsts_at + v) (numbers_of x).first 0 (omega (arith, long₁, low))

      second : get_or (set s₂ (thing_seconds_at + v) (numbers_of x).second) (thing_seconds_at + v) 0 ≡ (numbers_of x).second
      second = get_or-set_same s₂ (thing_seconds_at + v) (numbers_of x).second 0 (omega (arith, long₂, low))

  pub slot_there : (u : ℕ) → u ≢ v → slot_at (thing_put s v x) u ≡ slot_at s u
  unfolding slot_at
  slot_there u n = go (dec_lt u 322)
    where
      go : Dec (u < 322) → slot_at (thing_put s v x) u ≡ slot_at s u
      go (yes l) = rw (lt-ltb u 322 l) (λ z. slot
          (put_elsewhere (thing_kinds_at + u) (λ e. n (omega (arith, e))) (λ e. omega (arith, e, l, low)) (λ e. omega (arith, e, l, low)) z)
          (put_elsewhere (thing_firsts_at + u) (λ e. omega (arith, e, l, low)) (λ e. n (omega (arith, e))) (λ e. omega (arith, e, l, low)) z)
          (put_elsewhere (thing_seconds_at + u) (λ e. omega (arith, e, l, low)) (λ e. omega (arith, e, l, low)) (λ e. n (omega (arith, e))) z))
      go (no f) = rw (le-ltb u 322 (omega (arith, f)))

  pub thing_here : length s ≡ space_size → thing_at (thing_put s v x) v ≡ x
  thing_here long = thing_told (thing_put s v x) v ∙ ap thing_of (slot_here long) ∙ thing_read x

  pub thing_there : (u : ℕ) → u ≢ v → thing_at (thing_put s v x) u ≡ thing_at s u
  thing_there u n = thing_told (thing_put s v x) u ∙ ap thing_of (slot_there u n) ∙ sym (thing_told s u)

  -- the numbers are such as are stored
  pub plain_put : length s ≡ space_size → ((u : ℕ) → Plain (slot_at s u)) → (u : ℕ) → Plain (slot_at (thing_put s v x) u)
  plain_put long plain u = go (ℕ_discrete u v)
    where
      go : Dec (u ≡ v) → Plain (slot_at (thing_put s v x) u)
      go (yes e) = subst Plain (sym (ap (slot_at (thing_put s v x)) e ∙ slot_here long)) (numbers_plain x)
      go (no n) = subst Plain (sym (slot_there u n)) (plain u)

-- no thread has a number there
pub thing_agree : (i : ℕ) (s : List ℕ) (v : ℕ) (x : Thing) → i < 16 → Agree i s (thing_put s v x)
unfolding thing_put slot_put
thing_agree i s v x l =
    agree_then (agree_shared i (thing_kinds_at + v) (numbers_of x).kind s l (omega arith))
    (agree_then (agree_shared i (thing_firsts_at + v) (numbers_of x).first (set s (thing_kinds_at + v) (numbers_of x).kind) l (omega arith))
    (agree_shared i (thing_seconds_at + v) (numbers_of x).second (set (set s (thing_kinds_at + v) (numbers_of x).kind) (thing_firsts_at + v) (numbers_of x).first) l (omega arith)))

-- ------------------------------------------------------------------ all names

-- the slot that a value names: a constant names nothing
abbrev pub slot_of : (ℕ → state.Slot) → Value → state.Slot
slot_of names (int k) = unused
slot_of names (name n) = names n

module _ {s : List ℕ} {names : ℕ → state.Slot} {next : ℕ} {things : ObjectKind → ℕ} (N : NamesHeld s names next things) where
  pub next_small : next ≤ 321
  unfolding next_name
  next_small =
      let a = N.all in
      let b = N.few identifiers in
      let c = N.few cells in
      let d = N.few locks in
      let e = N.few semaphores in
      let f = N.few rwlocks in
      omega arith

  pub slot_decodes : (v : Value) → thing_at s (code_value v) ≡ coded (slot_of names v)
  unfolding thing_at
  slot_decodes (int k) = N.constant
  slot_decodes (name n) = go (dec_lt (suc n) 322)
    where
      go : Dec (suc n < 322) → thing_at s (suc n) ≡ coded (names n)
      go (yes l) = N.slots n l
      go (no f) = rw (le-ltb (suc n) 322 (omega (arith, f))) (ap coded (sym (N.unused_from_lem n (let a = next_small in omega (arith, a, f)))))

  -- a name that is used is below the next
  pub used_below : (n : ℕ) → names n ≢ unused → n < next
  used_below n u = go (dec_lt n next)
    where
      go : Dec (n < next) → n < next
      go (yes l) = l
      go (no f) = absurd (u (N.unused_from_lem n (omega (arith, f))))

  -- the name n names sl from now on
  pub names_put : (n : ℕ) (sl : state.Slot) → length s ≡ space_size → n < next → NamesHeld (thing_put s (suc n) (coded sl)) (update names n sl) next things
  names_put n sl long l = record {
    constant = thing_there s (suc n) (coded sl) low 0 (λ e. omega (arith, e)) ∙ N.constant;
    slots = λ m h. by_name m h (ℕ_discrete m n);
    plain = plain_put s (suc n) (coded sl) low long N.plain;
    unused_from_lem = λ m h. update_other names n m sl (λ e. omega (arith, e, h, l)) ∙ N.unused_from_lem m h;
    next_stored = put_elsewhere s (suc n) (coded sl) low next_value_at (λ e. omega (arith, e)) (λ e. omega (arith, e)) (λ e. omega (arith, e)) ∙ N.next_stored;
    counted = λ k. put_elsewhere s (suc n) (coded sl) low (thing_counts_at + kind_code k) (λ e. omega (arith, e, kind_low k)) (λ e. omega (arith, e, kind_low k)) (λ e. omega (arith, e, kind_low k)) ∙ N.counted k;
    few = N.few;
    all = N.all;
  }
    where
      low : suc n < 322
      low = let a = next_small in omega (arith, l, a)

      by_name : (m : ℕ) → suc m < 322 → (d : Dec (m ≡ n)) → thing_at (thing_put s (suc n) (coded sl)) (suc m) ≡ coded (choose d sl (names m))
      by_name m h (yes e) = ap (λ (j : ℕ). thing_at (thing_put s (suc n) (coded sl)) (suc j)) e ∙ thing_here s (suc n) (coded sl) low long
      by_name m h (no f) = thing_there s (suc n) (coded sl) low (suc m) (λ e. f (omega (arith, e))) ∙ N.slots m h
