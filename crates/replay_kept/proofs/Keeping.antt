-- Numbers that keep a run: the records, thread by thread, then the numbers in front of them.
use Prim.Native.Nat.{ℕ, ◌+◌, ◌<◌, ◌≤◌}
use mathlib.Core.Path.{◌≡◌, refl, sym, ◌∙◌, ap}
use mathlib.Core.List.{List, [], ◌∷◌}
use native.Mathlib.Omega.{arith}
use native.Mathlib.Decide.{ℕ_discrete}
use lib.ListN.{length, get_or, set, take, drop, length-set}
use lib.Seq.{get_or-set_same, get_or-set_other, get_or-drop, take-set-le, sets, sets-eq}
use borrow.Author.Tests.{le-leb}
use Rattle.lexer.specs.Numbers.{stored}
use Rattle.lexer.proofs.Stored as stored_laws
use Rattle.threads.specs.declared.Record.{Record}
use Rattle.threads.specs.Records.{no_record}
use Rattle.replay_theory.specs.declared.Status.{Status}
use Rattle.replay_theory.specs.declared.Status.TheVariants.{Running, Finished, Joined}
use Rattle.replay_kept.specs.declared.numbers.Told.{Told}
use Rattle.replay_kept.specs.Kept.{kept_size, status_number, status_of, record_in, race_in, told_in, RecordsKept, FrontKept}

-- ------------------------------------------------------------------ one number

pub small_stays : (n : ℕ) → n < 4294967296 → stored n ≡ n
small_stays n h = stored_laws.kept n (le-leb n 4294967295 (omega (arith, h)))

status_stays : (s : Status) → status_of (status_number s) ≡ s
unfolding status_of status_number
status_stays Running = refl
status_stays Finished = refl
status_stays Joined = refl

-- ------------------------------------------------------------------ the records

-- the records of the threads below t are kept in w, and what was in front of them in w₀ is there still
pub record KeptTo (t : ℕ) (rs : List Record) (w₀ w : List ℕ) : Type 0 where
  pub long : length w ≡ kept_size
  pub low : t ≤ 16
  pub kept : (i : ℕ) → i < t → record_in w i ≡ get_or rs i no_record
  pub front : take 11 w ≡ take 11 w₀

pub keep_none : (rs : List Record) (w : List ℕ) → length w ≡ kept_size → KeptTo 0 rs w w
keep_none rs w long = record { long = long; low = omega arith; kept = λ i h. absurd (omega (arith, h)); front = refl }

pub record_stored : (w : List ℕ) (t : ℕ) (r : Record) → t < 16 → length w ≡ kept_size → r.tid < 4294967296 →
    record_in (set (set w (11 + t) (status_number r.state)) (27 + t) r.tid) t ≡ r
unfolding record_in
record_stored w t r low long small = λ i. record { state = state i; tid = tid i }
  where
    w₁ : List ℕ
    w₁ = set w (11 + t) (status_number r.state)

    state : status_of (get_or (set w₁ (27 + t) r.tid) (11 + t) 0) ≡ r.state
    state =
        ap status_of (get_or-set_other w₁ (27 + t) (11 + t) r.tid 0 (λ e. omega (arith, e)) ∙ get_or-set_same w (11 + t) (status_number r.state) 0 (omega (arith, low, long)))
        ∙ status_stays r.state

    tid : stored (get_or (set w₁ (27 + t) r.tid) (27 + t) 0) ≡ r.tid
    tid =
        ap stored (get_or-set_same w₁ (27 + t) r.tid 0 (let l = length-set w (11 + t) (status_number r.state) in omega (arith, low, long, l)))
        ∙ small_stays r.tid small

other_stays : (w : List ℕ) (t i a b : ℕ) → t < 16 → i < t → record_in (set (set w (11 + t) a) (27 + t) b) i ≡ record_in w i
unfolding record_in
other_stays w t i a b low h = λ j. record { state = status_of (same (11 + i) (λ e. omega (arith, e, low, h)) (λ e. omega (arith, e, low, h)) j); tid = stored (same (27 + i) (λ e. omega (arith, e, low, h)) (λ e. omega (arith, e, low, h)) j) }
  where
    same : (k : ℕ) → (k ≡ 27 + t → ⊥) → (k ≡ 11 + t → ⊥) → get_or (set (set w (11 + t) a) (27 + t) b) k 0 ≡ get_or w k 0
    same k f g = get_or-set_other (set w (11 + t) a) (27 + t) k b 0 f ∙ get_or-set_other w (11 + t) k a 0 g

pub keep_more : (t : ℕ) (rs : List Record) (w₀ w w' : List ℕ) (r : Record) → t < 16 → KeptTo t rs w₀ w → r ≡ get_or rs t no_record →
    (w' ≡ set (set w (11 + t) (status_number r.state)) (27 + t) r.tid) × (r.tid < 4294967296) → KeptTo (t + 1) rs w₀ w'
keep_more t rs w₀ w w' r low K is (e, small) = rw e (record {
  long = length-set (set w (11 + t) (status_number r.state)) (27 + t) r.tid ∙ length-set w (11 + t) (status_number r.state) ∙ K.long;
  low = omega (arith, low);
  kept = λ i h. at_place i h (ℕ_discrete i t);
  front =
      take-set-le 11 (set w (11 + t) (status_number r.state)) (27 + t) r.tid (omega arith) ∙ take-set-le 11 w (11 + t) (status_number r.state) (omega arith)
      ∙ K.front;
})
  where
    at_place : (i : ℕ) → i < t + 1 → Dec (i ≡ t) → record_in (set (set w (11 + t) (status_number r.state)) (27 + t) r.tid) i ≡ get_or rs i no_record
    at_place i h (yes z) = rw z (record_stored w t r low K.long small ∙ is)
    at_place i h (no z) = other_stays w t i (status_number r.state) r.tid low (omega (arith, h, z)) ∙ K.kept i (omega (arith, h, z))

pub keep_all : (t : ℕ) (rs : List Record) (w₀ w : List ℕ) → 16 ≤ t → KeptTo t rs w₀ w → RecordsKept rs w × (take 11 w ≡ take 11 w₀)
keep_all t rs w₀ w h K = (λ i l. K.kept i (omega (arith, h, l)), K.front)

-- ------------------------------------------------------------------ the numbers in front of them

-- the numbers of 32 bits of what a run tells
pub record Small (t : Told) : Type 0 where
  pub number : t.ending.number < 4294967296
  pub condition : t.ending.condition < 4294967296
  pub location : t.ending.location < 4294967296
  pub first : t.race.first < 4294967296
  pub second : t.race.second < 4294967296

module _ (w : List ℕ) (goes : ℕ) (t : Told) (raced count : ℕ) where
  abbrev front : List ℕ
  front =
      goes ∷ t.ending.number ∷ t.ending.line ∷ t.ending.condition ∷ t.ending.location ∷ t.steps
      ∷ raced ∷ t.race.state ∷ t.race.first ∷ t.race.second ∷ count ∷ []

  pub front_kept : length w ≡ kept_size → Small t → FrontKept goes t raced count w (sets w 0 front)
  unfolding told_in race_in
  front_kept long small = rw (sets-eq front w 0 (omega (arith, long))) (record {
    is_going = refl;
    told = λ k. record {
      ending = record {
        number = small_stays t.ending.number small.number k;
        line = t.ending.line;
        condition = small_stays t.ending.condition small.condition k;
        location = small_stays t.ending.location small.location k;
      };
      steps = t.steps;
      race = record { state = t.race.state; first = small_stays t.race.first small.first k; second = small_stays t.race.second small.second k };
    };
    is_raced = refl;
    counted = refl;
    behind = refl;
  })

-- ------------------------------------------------------------------ the records behind them

pub record_behind : (w w' : List ℕ) (t : ℕ) → drop 11 w' ≡ drop 11 w → record_in w' t ≡ record_in w t
unfolding record_in
record_behind w w' t e = λ i. record { state = status_of (same t i); tid = stored (later i) }
  where
    same : (k : ℕ) → get_or w' (11 + k) 0 ≡ get_or w (11 + k) 0
    same k = sym (get_or-drop 11 w' k 0) ∙ ap (λ (x : List ℕ). get_or x k 0) e ∙ get_or-drop 11 w k 0

    later : get_or w' (27 + t) 0 ≡ get_or w (27 + t) 0
    later = let z : 11 + (16 + t) ≡ 27 + t = omega arith in ap (λ (k : ℕ). get_or w' k 0) (sym z) ∙ same (16 + t) ∙ ap (λ (k : ℕ). get_or w k 0) z
