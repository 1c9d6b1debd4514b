-- The lowest finished thread is one; and so is a step, of the thread and with the choice that a line lists, once the name of a new thing is
-- given.
use Rattle.std.proofs.Common.{Some, slice_get}
use Prim.Native.Nat.{ℕ, ◌<◌}
use mathlib.Core.Path.{◌≡◌, refl, sym, ◌∙◌, ap, subst}
use mathlib.Core.List.{List, [], ◌∷◌, ◌++◌}
use native.Mathlib.Decide.{dec_lt}
use native.Mathlib.Omega.{arith}
use Rattle.calculus.specs.Expression.{Value, int, name, Unary, join, ref, read, lock, unlock, post, wait, hold, call, Redex, let_redex, if_redex, while_redex, spawn_redex, write_redex, unary_redex, nullary_redex, at_word, next_word, Procedure}
use Rattle.calculus.specs.State.{Thread, State, Move, remove}
use Rattle.calculus.specs.Reduction.{word_of, reduct, reduce}
use Rattle.calculus.proofs.Laws.Maps.{some_injective, none_is_not_some, bind_goes_on}
use Rattle.replay_theory.specs.Trace.{TraceLine}
use Rattle.replay_theory.specs.Paths.{next_path}
use Rattle.replay_theory.specs.Run.{ObjectKind, cells, Run, place_of, part_chosen, Effect, plain, spawns, joins, opens, makes, unary_traits, kind_made, traits, effect, entries_after, numbers_after, one_more_if}
use Rattle.replay_theory.specs.Claim.{Numbered, LowestFinished, Reduced, LanguageStep}
use Rattle.replay_theory.specs.Exact.{Apart, OneLowest, Alike}
use Rattle.replay_theory.proofs.Effects.{another}
use Rattle.replay_theory.proofs.Proper.{Rising, rising_append, rising_remove}
use Rattle.replay_theory.proofs.Order.{rising_order}

-- ---- Runs that are alike

pub alike_back : {r s : Run} → Alike r s → Alike s r
alike_back E = record { procedures = sym E.procedures; state = sym E.state; numbers = sym E.numbers; threads = sym E.threads }

numbered_too : {r s : Run} {i p : ℕ} {t : Thread} → Alike r s → Numbered s i p t → Numbered r i p t
numbered_too {p = p} E N = record {
  number = ap (λ (ns : List ℕ). slice_get ns p) E.numbers ∙ N.number;
  thread = ap (λ (s : State). slice_get s.threads p) E.state ∙ N.thread;
}

-- ---- The lowest finished thread

one_of_alike : {r s : Run} (n p q : ℕ) → Alike r s → Apart r.numbers → LowestFinished r n p → LowestFinished s n q → p ≡ q
one_of_alike n p q E apart A B =
    let there = numbered_too E B.there in
    let below = A.least B.lowest q B.thread there B.same B.finished in
    let above = B.least A.lowest p A.thread (numbered_too (alike_back E) A.there) A.same A.finished in
    let one : A.lowest ≡ B.lowest = omega (arith, below, above) in
    apart p q B.lowest (A.there.number ∙ ap Some one) there.number

pub one_lowest : OneLowest
one_lowest r n p q apart A B = one_of_alike n p q (record { procedures = refl; state = refl; numbers = refl; threads = refl }) apart A B

-- ---- Numbers that rise

pub rising_apart : (low high : ℕ) (ns : List ℕ) → Rising low ns high → Apart ns
rising_apart low high ns rising p q i h k = by_order (dec_lt p q) (dec_lt q p)
  where
    by_order : Dec (p < q) → Dec (q < p) → p ≡ q
    by_order (yes b) c = let less = rising_order low high ns p q i i rising b h k in absurd (omega (arith, less))
    by_order (no b) (yes c) = let less = rising_order low high ns q p i i rising c k h in absurd (omega (arith, less))
    by_order (no b) (no c) = omega (arith, b, c)

rises_after : (r : Run) (m : Move) (e : Effect) → Rising 0 r.numbers r.threads → Rising 0 (numbers_after r m e) (one_more_if spawns e r.threads)
unfolding entries_after one_more_if
rises_after r m plain rising = rising
rises_after r m spawns rising = rising_append 0 r.threads r.numbers rising
rises_after r m joins rising = rising_remove 0 r.threads r.numbers m.finished rising
rises_after r m opens rising = rising
rises_after r m (makes k) rising = rising

pub step_rises : {r r' : Run} {l : TraceLine} {d : Reduced} → LanguageStep r l d r' → Rising 0 r.numbers r.threads → Rising 0 r'.numbers r'.threads
step_rises {r} {r'} {d = d} A rising =
    subst (Rising 0 r'.numbers) (sym A.counted)
    (subst (λ (ns : List ℕ). Rising 0 ns (one_more_if spawns (effect d.word) r.threads)) (sym A.numbered) (rises_after r A.move (effect d.word) rising))

-- ---- What a word looks at in a move

-- The move with another finished thread and another name.
abbrev listing : Move → (finished fresh : ℕ) → Move
listing m f n = record { thread = m.thread; part = m.part; finished = f; fresh = n }

-- A join alone looks at the finished thread, a word that makes something alone at the name.
module _ (P : List Procedure) (s : State) (m : Move) (t : Thread) (f n : ℕ) where
  unary_looks : (o : Unary) (v : Value) → ((unary_traits o v).effect ≡ joins → m.finished ≡ f) → ((k : ObjectKind) → (unary_traits o v).effect ≡ makes k → m.fresh ≡ n) →
      reduct P s m t (unary_redex o v) ≡ reduct P s (listing m f n) t (unary_redex o v)
  unfolding unary_traits
  unary_looks join v same named = ap (λ (x : ℕ). reduct P s (listing m x n) t (unary_redex join v)) (same refl)
  unary_looks ref v same named = ap (λ (x : ℕ). reduct P s (listing m f x) t (unary_redex ref v)) (named cells refl)
  unary_looks read v same named = refl
  unary_looks lock v same named = refl
  unary_looks unlock v same named = refl
  unary_looks post v same named = refl
  unary_looks wait v same named = refl
  unary_looks (hold w) v same named = refl
  unary_looks (call g) v same named = refl

  looks : (w : Redex) → (effect w ≡ joins → m.finished ≡ f) → ((k : ObjectKind) → effect w ≡ makes k → m.fresh ≡ n) →
      reduct P s m t w ≡ reduct P s (listing m f n) t w
  unfolding traits
  looks (let_redex x v e) same named = refl
  looks (if_redex e₁ e₂) same named = refl
  looks (while_redex e) same named = refl
  looks (spawn_redex v e) same named = refl
  looks (write_redex v u) same named = refl
  looks (unary_redex o v) same named = unary_looks o v same named
  looks (nullary_redex o) same named = ap (λ (x : ℕ). reduct P s (listing m f x) t (nullary_redex o)) (named (kind_made o) refl)

  -- A join that reduces is of a name.
  unary_name : {s' : State} (o : Unary) (v : Value) → (unary_traits o v).effect ≡ joins → reduct P s m t (unary_redex o v) ≡ Some s' →
      (i : ℕ) × (unary_redex o v ≡ unary_redex join (name i))
  unfolding unary_traits
  unary_name join (int k) is q = none_is_not_some q
  unary_name join (name i) is q = (i, refl)
  unary_name ref v is q = another (makes cells) joins refl is
  unary_name read v is q = another plain joins refl is
  unary_name lock v is q = another plain joins refl is
  unary_name unlock v is q = another plain joins refl is
  unary_name post v is q = another plain joins refl is
  unary_name wait v is q = another plain joins refl is
  unary_name (hold w) v is q = another plain joins refl is
  unary_name (call g) v is q = another opens joins refl is

  joins_name : {s' : State} (w : Redex) → effect w ≡ joins → reduct P s m t w ≡ Some s' → (i : ℕ) × (w ≡ unary_redex join (name i))
  unfolding traits
  joins_name (let_redex x v e) is q = another plain joins refl is
  joins_name (if_redex e₁ e₂) is q = another plain joins refl is
  joins_name (while_redex e) is q = another plain joins refl is
  joins_name (spawn_redex v e) is q = another spawns joins refl is
  joins_name (write_redex v u) is q = another plain joins refl is
  joins_name (unary_redex o v) is q = unary_name o v is q
  joins_name (nullary_redex o) is q = another (makes (kind_made o)) joins refl is

numbers_alike : {r s : Run} (m k : Move) (e : Effect) → Alike r s → (e ≡ joins → m.finished ≡ k.finished) → numbers_after r m e ≡ numbers_after s k e
unfolding entries_after
numbers_alike m k plain E same = E.numbers
numbers_alike m k spawns E same = λ z. E.numbers z ++ (E.threads z ∷ [])
numbers_alike m k joins E same = λ z. remove (E.numbers z) (same refl z)
numbers_alike m k opens E same = E.numbers
numbers_alike m k (makes thing) E same = E.numbers

-- ---- Two steps of one line

word_injective : {w u : Redex} → at_word w ≡ at_word u → w ≡ u
word_injective h = cc

pub word_reduces : {r r' : Run} {l : TraceLine} {d : Reduced} (A : LanguageStep r l d r') → reduct r.procedures r.state A.move A.thread d.word ≡ Some r'.state
unfolding reduce
word_reduces {r} A = bind_goes_on (word_of (next_word A.thread.body)) _ (ap word_of A.next)
    (bind_goes_on (slice_get r.state.threads A.move.thread) _ A.there A.reduces)

module _ {r s r' s' : Run} {l l' : TraceLine} {d e : Reduced} (E : Alike r s) (line : l ≡ l') (A : LanguageStep r l d r') (B : LanguageStep s l' e s') where
  one_place : A.move.thread ≡ B.move.thread
  one_place = some_injective {a = A.move.thread} (sym A.listed.place ∙ (λ z. place_of (line z).thread (E.numbers z)) ∙ B.listed.place)

  one_thread : A.thread ≡ B.thread
  one_thread = some_injective (sym A.there ∙ (λ z. slice_get (E.state z).threads (one_place z)) ∙ B.there)

  one_word : d.word ≡ e.word
  one_word = word_injective (sym A.next ∙ ap (λ (t : Thread). next_word t.body) one_thread ∙ B.next)

  one_part_lem : A.move.part ≡ B.move.part
  one_part_lem = some_injective {a = A.move.part}
      (sym (A.listed.chosen A.thread d.word A.there (ap word_of A.next))
      ∙ (λ z. part_chosen (one_word z) (line z).choice)
      ∙ B.listed.chosen B.thread e.word B.there (ap word_of B.next))

  -- They reduce the same.
  pub one_reduced : d ≡ e
  one_reduced =
      let taker = A.taker ∙ ap (λ (x : TraceLine). x.thread) line ∙ sym B.taker in
      let path = sym A.path ∙ ap (λ (t : Thread). next_path t.body) one_thread ∙ B.path in
      λ z. record { thread = taker z; path = path z; word = one_word z }

  module _ (apart : Apart r.numbers) where
    one_finished : effect d.word ≡ joins → A.move.finished ≡ B.move.finished
    one_finished is =
        let (n, at) = joins_name r.procedures r.state A.move A.thread 0 0 d.word is (word_reduces A) in
        one_of_alike n A.move.finished B.move.finished E apart (A.joins_lowest n at) (B.joins_lowest n (sym one_word ∙ at))

    -- They come to the same, if a new thing gets the same name.
    pub one_after : ((k : ObjectKind) → effect d.word ≡ makes k → A.move.fresh ≡ B.move.fresh) → Alike r' s'
    one_after named = record {
      procedures = A.same_procedures ∙ E.procedures ∙ sym B.same_procedures;
      state = some_injective
          (sym (word_reduces A)
          ∙ looks r.procedures r.state A.move A.thread B.move.finished B.move.fresh d.word one_finished named
          ∙ (λ z. reduct (E.procedures z) (E.state z) (record { thread = one_place z; part = one_part_lem z; finished = B.move.finished; fresh = B.move.fresh })
          (one_thread z) (one_word z))
          ∙ word_reduces B);
      numbers = A.numbered ∙ numbers_alike A.move B.move (effect d.word) E one_finished
          ∙ ap (λ (w : Redex). numbers_after s B.move (effect w)) one_word ∙ sym B.numbered;
      threads = A.counted ∙ (λ z. one_more_if spawns (effect (one_word z)) (E.threads z)) ∙ sym B.counted;
    }
