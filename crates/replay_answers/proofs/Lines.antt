-- The line of a replay: its parts, and its length.
use Rattle.std.proofs.Common.{Option, None, Some}
use mathlib.Core.Path.{◌≡◌, refl, sym, ap, ◌∙◌}
use mathlib.Core.List.{List, [], ◌∷◌, ◌++◌, append_assoc, append-nil}
use mathlib.Core.Bool.{false}
use Prim.Native.Nat.{ℕ, ◌+◌, ◌≤◌, ◌<◌}
use native.Mathlib.Omega.{arith}
use lib.ListN.{length, length-append}
use Rattle.spec.specs.Text.{bytes, Field}
use Rattle.text_theory.specs.Text.{decimal, line}
use Rattle.text_theory.proofs.Decimal.{decimal_length}
use Rattle.replay_theory.specs.Replay.{returned_for}
use Rattle.replay_theory.specs.declared.Race.{Race}
use Rattle.replay_theory.specs.declared.Ending.{Ending}
use Rattle.replay_theory.specs.declared.Ending.TheVariants.{Done, Refused, TraceForm, NoStep, PastLimit}
use Rattle.replay_theory.specs.declared.Numbers.{Numbers}
use Rattle.replay_theory.specs.declared.Replayed.{Replayed}
use Rattle.replay_answers.specs.Line.{race_fields, number_fields, ran_with, ran_fields, race_after, refused_fields, is_done, replayed_fields, output_line, opened}

-- ------------------------------------------------------------------ fields in front of others

next_field : (f g : Field) (fs : List Field) → line (f ∷ g ∷ fs) [] ≡ (f ++ (44 ∷ [])) ++ line (g ∷ fs) []
unfolding line
next_field f g fs = rw append_assoc

opened_line : (fs : List Field) (g : Field) (gs : List Field) → line (fs ++ (g ∷ gs)) [] ≡ opened fs ++ line (g ∷ gs) []
unfolding opened
opened_line [] g gs = refl
opened_line (f ∷ []) g gs = next_field f g gs ∙ sym (append_assoc (f ++ (44 ∷ [])) [] (line (g ∷ gs) []))
opened_line (f ∷ h ∷ hs) g gs =
    next_field f h (hs ++ (g ∷ gs))
    ∙ ap (λ (l : List ℕ). (f ++ (44 ∷ [])) ++ l) (opened_line (h ∷ hs) g gs)
    ∙ sym (append_assoc (f ++ (44 ∷ [])) (opened (h ∷ hs)) (line (g ∷ gs) []))

-- ------------------------------------------------------------------ the parts of a line, as they are written

pub race_parts : (race : Race) → line (race_fields race) []
    ≡ (decimal race.state ++ (44 ∷ [])) ++ ((decimal race.lower ++ (44 ∷ [])) ++ (decimal race.other ++ (10 ∷ [])))
unfolding line race_fields
race_parts race =
    next_field (decimal race.state) (decimal race.lower) (decimal race.other ∷ [])
    ∙ ap (λ (l : List ℕ). (decimal race.state ++ (44 ∷ [])) ++ l) (next_field (decimal race.lower) (decimal race.other) [])

pub four_parts : (x : Numbers) → opened (number_fields x)
    ≡ (decimal x.number ++ (44 ∷ [])) ++ ((decimal x.line ++ (44 ∷ [])) ++ ((decimal x.condition ++ (44 ∷ [])) ++ (decimal x.location ++ (44 ∷ []))))
unfolding opened number_fields
four_parts x = rw (append-nil (decimal x.location ++ (44 ∷ []))) refl

module _ (steps : ℕ) {found : Option Race} where
  pub ran_parts : found ≡ None → line (ran_with steps found) [] ≡ bytes "RAN," ++ (decimal steps ++ (10 ∷ []))
  unfolding bytes line ran_with
  ran_parts e = ap (λ (r : Option Race). line (ran_with steps r) []) e

  pub raced_parts : {race : Race} → found ≡ Some race
      → line (ran_with steps found) [] ≡ bytes "RACE," ++ ((decimal steps ++ (44 ∷ [])) ++ line (race_fields race) [])
  unfolding bytes line ran_with race_fields
  raced_parts {race} e =
      ap (λ (r : Option Race). line (ran_with steps r) []) e
      ∙ ap (λ (l : List ℕ). bytes "RACE," ++ l) (next_field (decimal steps) (decimal race.state) (decimal race.lower ∷ decimal race.other ∷ []))

-- a refusal up to its steps
refused_headed : (x : Numbers) (g : Field) (gs : List Field) → line (bytes "REFUSE" ∷ (number_fields x ++ (g ∷ gs))) []
    ≡ bytes "REFUSE," ++ (opened (number_fields x) ++ line (g ∷ gs) [])
unfolding bytes line number_fields
refused_headed x g gs = ap (λ (l : List ℕ). bytes "REFUSE," ++ l) (opened_line (number_fields x) g gs)

module _ (x : Numbers) (steps : ℕ) {found : Option Race} where
  pub refused_parts : found ≡ None
      → line (bytes "REFUSE" ∷ (number_fields x ++ (decimal steps ∷ race_after found))) []
      ≡ bytes "REFUSE," ++ (opened (number_fields x) ++ (decimal steps ++ (10 ∷ [])))
  unfolding line race_after
  refused_parts e =
      refused_headed x (decimal steps) (race_after found)
      ∙ ap (λ (r : Option Race). bytes "REFUSE," ++ (opened (number_fields x) ++ line (decimal steps ∷ race_after r) [])) e

  pub refused_raced_parts : {race : Race} → found ≡ Some race
      → line (bytes "REFUSE" ∷ (number_fields x ++ (decimal steps ∷ race_after found))) []
      ≡ bytes "REFUSE," ++ (opened (number_fields x) ++ ((decimal steps ++ (44 ∷ [])) ++ (bytes "RACE," ++ line (race_fields race) [])))
  unfolding bytes line race_after race_fields
  refused_raced_parts {race} e =
      refused_headed x (decimal steps) (race_after found)
      ∙ ap (λ (r : Option Race). bytes "REFUSE," ++ (opened (number_fields x) ++ line (decimal steps ∷ race_after r) [])) e
      ∙ ap (λ (l : List ℕ). bytes "REFUSE," ++ (opened (number_fields x) ++ l)) (next_field (decimal steps) (bytes "RACE") (race_fields race))

-- ------------------------------------------------------------------ lengths

-- so many bytes are enough for a number of 32 bits, and for one of 64
pub short_number : (n : ℕ) → n < 4294967296 → length (decimal n) ≤ 10
short_number n h = decimal_length 10 n (omega arith) (omega arith)

pub long_number : (n : ℕ) → n < 18446744073709551616 → length (decimal n) ≤ 20
long_number n h = decimal_length 20 n (omega arith) (omega arith)

race_long : (race : Race) → length (line (race_fields race) [])
    ≡ length (decimal race.state) + length (decimal race.lower) + length (decimal race.other) + 3
race_long race = rw race_parts (simp length-append (omega arith))

four_long : (x : Numbers) → length (opened (number_fields x))
    ≡ length (decimal x.number) + length (decimal x.line) + length (decimal x.condition) + length (decimal x.location) + 4
four_long x = rw four_parts (simp length-append (omega arith))

-- a state of 64 bits, and threads of 32
pub record SmallRace (race : Race) : Type 0 where
  pub state : race.state < 18446744073709551616
  pub lower : race.lower < 4294967296
  pub other : race.other < 4294967296

race_short : (race : Race) → SmallRace race → length (line (race_fields race) []) ≤ 43
race_short race k =
    let ln = long_number race.state k.state in
    let li = short_number race.lower k.lower in
    let lj = short_number race.other k.other in
    omega (arith, race_long race)

module _ (steps : ℕ) {found : Option Race} (h : steps < 18446744073709551616) where
  pub ran_short : found ≡ None → length (line (ran_with steps found) []) ≤ 69
  unfolding bytes
  ran_short e =
      let l = long_number steps h in
      rw (ran_parts steps e, length-append (decimal steps)) (omega arith)

  pub raced_short : {race : Race} → found ≡ Some race → SmallRace race → length (line (ran_with steps found) []) ≤ 69
  unfolding bytes
  raced_short {race} e k =
      let l = long_number steps h in
      rw (raced_parts steps e, length-append (decimal steps ++ (44 ∷ [])), length-append (decimal steps)) (omega (arith, race_short race k))

-- four numbers of that many bits
pub record Small (x : Numbers) : Type 0 where
  pub number : x.number < 4294967296
  pub line : x.line < 18446744073709551616
  pub condition : x.condition < 4294967296
  pub location : x.location < 4294967296

four_short : (x : Numbers) → Small x → length (opened (number_fields x)) ≤ 54
four_short x k =
    let ln = short_number x.number k.number in
    let ll = long_number x.line k.line in
    let lc = short_number x.condition k.condition in
    let lp = short_number x.location k.location in
    omega (arith, four_long x)

module _ (x : Numbers) (steps : ℕ) {found : Option Race} (k : Small x) (h : steps < 18446744073709551616) where
  pub refused_short : found ≡ None → length (line (bytes "REFUSE" ∷ (number_fields x ++ (decimal steps ∷ race_after found))) []) ≤ 130
  unfolding bytes
  refused_short e =
      let l = long_number steps h in
      rw (refused_parts x steps e, length-append (opened (number_fields x)), length-append (decimal steps)) (omega (arith, four_short x k))

  pub refused_raced_short : {race : Race} → found ≡ Some race → SmallRace race
      → length (line (bytes "REFUSE" ∷ (number_fields x ++ (decimal steps ∷ race_after found))) []) ≤ 130
  unfolding bytes
  refused_raced_short {race} e r =
      let l = long_number steps h in
      rw (refused_raced_parts x steps e, length-append (opened (number_fields x)), length-append (decimal steps ++ (44 ∷ [])), length-append (decimal steps))
      (omega (arith, four_short x k, race_short race r))

-- ------------------------------------------------------------------ the line of an outcome

not_done : (ending : Ending) → (ending ≡ Done → ⊥) → is_done ending ≡ false
unfolding is_done
not_done Done h = absurd (h refl)
not_done (Refused r) h = refl
not_done (TraceForm k) h = refl
not_done (NoStep k) h = refl
not_done (PastLimit k) h = refl

module _ {o : Option Replayed} where
  pub ran_line : {r : Replayed} → o ≡ Some r → r.ending ≡ Done → output_line o ≡ line (ran_fields r.report) []
  unfolding replayed_fields output_line is_done
  ran_line e h = ap output_line e ∙ rw h

  pub refused_line : {r : Replayed} {x : Numbers} → o ≡ Some r → (r.ending ≡ Done → ⊥) → x ≡ returned_for r.ending → output_line o ≡ line (refused_fields x r.report) []
  unfolding replayed_fields output_line
  refused_line {r} e h f = ap output_line e ∙ rw (not_done r.ending h) (ap (λ (y : Numbers). line (refused_fields y r.report) []) (sym f))

  pub unread_line : o ≡ None → output_line o ≡ bytes "UNREAD" ++ (10 ∷ [])
  unfolding bytes line output_line
  unread_line e = ap output_line e
