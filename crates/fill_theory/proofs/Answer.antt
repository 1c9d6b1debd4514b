-- What the answer of filling says of a pair of sheets: 41 exactly when there are no after-maps, a text exactly when the greatest
-- after-maps keep the size limits, and then the pair with that text is accepted.
use Rattle.std.proofs.Common.{Option, None, Some, Result, Ok, Err}
use mathlib.Core.Path.{◌≡◌, refl, ap, sym, ◌∙◌}
use mathlib.Core.Path.{subst as along}
use mathlib.Core.Bool.{Bool, true, false}
use mathlib.Core.List.{List, []}
use mathlib.Core.Logic.{◌↔◌, ◌⊎◌, inl, inr, ⊎_elim}
use Prim.Native.Nat.{ℕ, ◌≤◌, min}
use native.Mathlib.Omega.{arith}
use native.Mathlib.Decide.{dec_le}
use lib.ListN.{length, get_or}
use borrow.Author.Tests.{leb-true}
use Rattle.spec.specs.declared.Refusal.{Refusal}
use Rattle.spec.specs.Program.{Program, program_limit}
use Rattle.spec.specs.Split.{Map, Split, split, split_limit}
use Rattle.spec.specs.Maps.{share}
use Rattle.spec.specs.Workspace.{workspace_size}
use Rattle.spec.specs.Verdict.{type_conditions_hold, answer, verdict, numbers4, returned}
use Rattle.spec.specs.declared.Purpose.TheVariants.{Check, Fill}
use Rattle.spec.specs.declared.Answer.TheVariants.{Accept, Refuse}
use Rattle.spec.specs.declared.Refusal.TheVariants.{NoAfterMaps, TooLarge}
use Rattle.spec.proofs.Outcomes.{stop_is_not_on, on_injective, stop_injective, bind_goes_on, goes_on_bind, demand_goes_on}
use Rattle.spec.proofs.WellFormed.{well_formed_program}
use Rattle.spec.proofs.Sheets.{sheets_well_formed, well_formed_sheets, sheets_read}
use Rattle.spec.proofs.Ranges.{well_formed_in_range}
use Rattle.spec.proofs.Reached.{start_at_most_one_lem, at_most_one_start}
use Rattle.spec.proofs.Locks.{locks_take_enough_lem, enough_taken}
use Rattle.spec.proofs.Reasons.{rules_decide}
use Rattle.spec.proofs.Claims.{none_false_all_hold, all_hold_none_false}
use Rattle.text_theory.specs.Sheet.{sheet_text}
use Rattle.fill_theory.specs.Filled.{filled}
use Rattle.fill_theory.specs.AfterMaps.{type_claims, AfterMaps, GreatestMaps}
use Rattle.fill_theory.specs.GreatestMaps.{greatest_maps}
use Rattle.fill_theory.specs.Answer.{given_limit, number_limit, all_at_most, filled_text, WithinLimits, OverLimits, large_number, long_sheet, short_buffer, GreatestOverLimits, fill, Fillable, FilledSheet}
use Rattle.fill_theory.proofs.Reasons.{no_after_maps, large_number_lem, long_text, text_written, locks_decide}
use Rattle.fill_theory.proofs.ReadBack.{filled_reads_back}
use Rattle.fill_theory.proofs.Limits.{at_most_at, all_at_most_lem, some_above, steps_few}
use Rattle.fill_theory.proofs.Filling.{solvable, found_exactly_greatest, locks_kept, start_kept, filled_accepted}

-- ------------------------------------------------------------------ refusals

-- 42 is not 41
too_large_is_not_none : {C : Type 0} → ◌≡◌ {A = Result (List ℕ) Refusal} (Err TooLarge) (Err NoAfterMaps) → C
unfolding returned numbers4
too_large_is_not_none h =
    let clash : ◌≡◌ {A = ℕ} 42 41 = ap (λ r. (returned (Refuse r)).number) (stop_injective h) in
    absurd (omega (arith, clash))

-- ------------------------------------------------------------------ the answer

-- 41, 42 or a text
pub data Decided : Result (List ℕ) Refusal → Type 0 where
  refused_unsolvable : Decided (Err NoAfterMaps)
  refused_too_large : Decided (Err TooLarge)
  wrote_text : (t : List ℕ) → Decided (Ok t)

module _ (buffer : ℕ) (P : Program) (S : Split) where
  abbrev text : Result (List ℕ) Refusal
  text = filled_text buffer P S

  -- no maps keep the limits and go over one
  not_over : (γ : List Map) → WithinLimits buffer S γ → OverLimits buffer S γ → ⊥
  unfolding share
  not_over γ limits (large_number i p above) = omega (arith, above, at_most_at (get_or γ i []) (limits.small i) p.0)
  not_over γ limits (long_sheet h) = omega (arith, h, limits.not_long)
  not_over γ limits (short_buffer h) = omega (arith, h, limits.has_room)

  -- once the greatest maps are found, the split with them is written, or it goes over a limit
  Settled : List Map → Type 0
  Settled γ = (WithinLimits buffer S γ × (text ≡ Ok (sheet_text (filled S γ)))) ⊎ (OverLimits buffer S γ × (text ≡ Err TooLarge))

  settled : (γ : List Map) → greatest_maps P S ≡ Some γ → Settled γ
  unfolding Settled number_limit split_limit share
  settled γ e = go (all_at_most number_limit γ) refl (dec_le (length (sheet_text (filled S γ))) (min split_limit buffer))
    where
      too_long : Dec (length (sheet_text (filled S γ)) ≤ buffer) → (length (sheet_text (filled S γ)) ≤ min split_limit buffer → ⊥) → OverLimits buffer S γ
      too_long (yes room) long = long_sheet (omega (arith, long))
      too_long (no room) long = short_buffer (omega (arith, room))

      go : (b : Bool) → all_at_most number_limit γ ≡ b → Dec (length (sheet_text (filled S γ)) ≤ min split_limit buffer) → Settled γ
      go false large d =
          let (i, l, above) = some_above number_limit γ large in
          inr (large_number i (record { 0 = l }) above, large_number_lem buffer P S γ e large)
      go true small (yes short) =
          inl (
            record { small = (all_at_most_lem number_limit γ).0 small; not_long = omega (arith, short); has_room = omega (arith, short) },
            text_written buffer P S γ e small short,
          )
      go true small (no long) =
          inr (too_long (dec_le (length (sheet_text (filled S γ))) buffer) long, long_text buffer P S γ e small (omega (arith, long)))

  within_limits_lem : (γ : List Map) → greatest_maps P S ≡ Some γ → WithinLimits buffer S γ → text ≡ Ok (sheet_text (filled S γ))
  unfolding Settled
  within_limits_lem γ e limits = ⊎_elim (λ w. w.1) (λ o. absurd (not_over γ limits o.0)) (settled γ e)

  over_limits : (γ : List Map) → greatest_maps P S ≡ Some γ → OverLimits buffer S γ → text ≡ Err TooLarge
  unfolding Settled
  over_limits γ e over = ⊎_elim (λ w. absurd (not_over γ w.0 over)) (λ o. o.1) (settled γ e)

  refused_over : (γ : List Map) → greatest_maps P S ≡ Some γ → text ≡ Err TooLarge → OverLimits buffer S γ
  unfolding Settled
  refused_over γ e h = ⊎_elim (λ w. stop_is_not_on (sym h ∙ w.1)) (λ o. o.0) (settled γ e)

  found_not_refused : {C : Type 0} (γ : List Map) → greatest_maps P S ≡ Some γ → text ≡ Err NoAfterMaps → C
  unfolding Settled
  found_not_refused γ e h = ⊎_elim (λ w. stop_is_not_on (sym h ∙ w.1)) (λ o. too_large_is_not_none (sym o.1 ∙ h)) (settled γ e)

  filled_decided : Decided text
  unfolding Settled
  filled_decided = go (greatest_maps P S) refl
    where
      go : (o : Option (List Map)) → greatest_maps P S ≡ o → Decided text
      go None e = along Decided (sym (no_after_maps buffer P S e)) refused_unsolvable
      go (Some γ) e =
          ⊎_elim (λ w. along Decided (sym w.1) (wrote_text (sheet_text (filled S γ)))) (λ o. along Decided (sym o.1) refused_too_large) (settled γ e)

  -- a text that is written, and what it has
  text_has : (t : List ℕ) → text ≡ Ok t
      → (γ : List Map) × (greatest_maps P S ≡ Some γ) × WithinLimits buffer S γ × (t ≡ sheet_text (filled S γ))
  unfolding Settled
  text_has t h = go (greatest_maps P S) refl
    where
      go : (o : Option (List Map)) → greatest_maps P S ≡ o
          → (γ : List Map) × (greatest_maps P S ≡ Some γ) × WithinLimits buffer S γ × (t ≡ sheet_text (filled S γ))
      go None e = stop_is_not_on (sym (no_after_maps buffer P S e) ∙ h)
      go (Some γ) e = ⊎_elim (λ w. (γ, e, w.0, on_injective (sym h ∙ w.1))) (λ o. stop_is_not_on (sym o.1 ∙ h)) (settled γ e)

module _ (room buffer : ℕ) (p s : List ℕ) where
  abbrev answered : Result (List ℕ) Refusal
  answered = fill room buffer p s

  -- 41 and 42 decide once all that is judged before them is passed
  pub fillable_decides : (P : Program) (S : Split) → Fillable room p s P S → answered ≡ filled_text buffer P S
  unfolding workspace_size program_limit split_limit type_conditions_hold type_claims
  fillable_decides P S F =
      locks_decide room buffer p s F.enough P S (well_formed_sheets Fill p s F.judgeable.sheets) F.few
      ∙ goes_on_bind _ _ (enough_taken S F.judgeable.locks)
      (goes_on_bind _ _ (at_most_one_start P S F.judgeable.at_most_one) (goes_on_bind _ _ (all_hold_none_false _ F.types_hold) refl))

  -- and nothing else is told then
  pub fillable_decided : (P : Program) (S : Split) → Fillable room p s P S → Decided answered
  fillable_decided P S F = along Decided (sym (fillable_decides P S F)) (filled_decided buffer P S)

  -- a text is written only then
  written_fillable : {t : List ℕ} → answered ≡ Ok t
      → (P : Program) × (S : Split) × Fillable room p s P S × (filled_text buffer P S ≡ Ok t)
  unfolding fill type_conditions_hold type_claims
  written_fillable h =
      let (_, enough, r₁) = bind_goes_on _ _ h in
      let ((P, S), reads, r₂) = bind_goes_on _ _ r₁ in
      let (_, few, r₃) = bind_goes_on _ _ r₂ in
      let (_, locks, r₄) = bind_goes_on _ _ r₃ in
      let (_, whole, r₅) = bind_goes_on _ _ r₄ in
      let (_, types, r₆) = bind_goes_on _ _ r₅ in (
        P,
        S,
        record {
          enough = leb-true _ _ (demand_goes_on _ _ enough);
          judgeable = record {
            sheets = sheets_well_formed Fill p s reads;
            locks = locks_take_enough_lem S locks;
            at_most_one = start_at_most_one_lem P S whole;
          };
          few = leb-true _ _ (demand_goes_on _ _ few);
          types_hold = none_false_all_hold _ types;
        },
        r₆,
      )

  -- "41 if no such maps exist"
  pub refused_exactly_unsolvable : (P : Program) (S : Split) → Fillable room p s P S
      → (answered ≡ Err NoAfterMaps) ↔ ((σ : List Map) → AfterMaps P S σ → ⊥)
  refused_exactly_unsolvable P S F = rw (fillable_decides P S F) (
    λ h σ A. let (γ, e) = solves.1 (σ, A) in found_not_refused buffer P S γ e h,
    λ unsolvable. no_after_maps buffer P S (go (greatest_maps P S) refl unsolvable),
  )
    where
      solves : ((γ : List Map) × (greatest_maps P S ≡ Some γ)) ↔ ((σ : List Map) × AfterMaps P S σ)
      solves = solvable P S F.judgeable.sheets.program (well_formed_in_range F.judgeable.sheets.split)

      go : (o : Option (List Map)) → greatest_maps P S ≡ o → ((σ : List Map) → AfterMaps P S σ → ⊥) → o ≡ None
      go None e unsolvable = refl
      go (Some γ) e unsolvable = let (σ, A) = solves.0 (γ, e) in absurd (unsolvable σ A)

  greatest : (P : Program) (S : Split) → Fillable room p s P S → (γ : List Map) → greatest_maps P S ≡ Some γ ↔ GreatestMaps P S γ
  greatest P S F = found_exactly_greatest P S F.judgeable.sheets.program (well_formed_in_range F.judgeable.sheets.split)

  -- "42 if the greatest has a number above 1,000,000,000 or the filled sheet is over 65,536 bytes or over the buffer"
  pub refused_exactly_too_large : (P : Program) (S : Split) → Fillable room p s P S
      → (answered ≡ Err TooLarge) ↔ GreatestOverLimits buffer P S
  refused_exactly_too_large P S F = rw (fillable_decides P S F) (
    λ h. found (greatest_maps P S) refl h,
    λ G. over_limits buffer P S G.γ ((greatest P S F G.γ).1 G.greatest) G.over,
  )
    where
      found : (o : Option (List Map)) → greatest_maps P S ≡ o → filled_text buffer P S ≡ Err TooLarge
          → GreatestOverLimits buffer P S
      found None e h = too_large_is_not_none (sym h ∙ no_after_maps buffer P S e)
      found (Some γ) e h = record { γ = γ; greatest = (greatest P S F γ).0 e; over = refused_over buffer P S γ e h }

  -- "It is written exactly when .., apart from the size limits": with the greatest after-maps
  pub written_exactly : (t : List ℕ) → answered ≡ Ok t ↔ FilledSheet room buffer p s t
  written_exactly t = (
    λ h.
        let (P, S, F, e) = written_fillable h in
        let (γ, found, limits, is) = text_has buffer P S t e in
        record { P = P; S = S; γ = γ; fillable = F; greatest = (greatest P S F γ).0 found; limits = limits; is_text = is },
    λ W.
        let F = W.fillable in
        fillable_decides W.P W.S F
        ∙ within_limits_lem buffer W.P W.S W.γ ((greatest W.P W.S F W.γ).1 W.greatest) W.limits
        ∙ ap Ok (sym W.is_text),
  )

  -- "The filled pair must be accepted"
  pub written_accepted : (t : List ℕ) → answered ≡ Ok t → verdict room p t ≡ Accept
  unfolding answer workspace_size program_limit split_limit given_limit type_conditions_hold type_claims
  written_accepted t h =
      let W = (written_exactly t).0 h in
      let F = W.fillable in
      let J = F.judgeable in
      let S = W.S in
      let A = W.greatest.after_maps in
      let R = well_formed_in_range J.sheets.split in
      let found = (greatest W.P S F W.γ).1 W.greatest in
      let reads = filled_reads_back S W.γ (omega (arith, A.counted, F.few, steps_few W.P J.sheets.program)) A.wide W.limits.small A.counted J.sheets.split in
      rules_decide room p t F.enough W.P (filled S W.γ)
      (sheets_read Check p t J.sheets.program.fits W.P (well_formed_program p J.sheets.program) (omega (arith, ap length W.is_text, W.limits.not_long)) (filled S W.γ) (ap (split Check W.P) W.is_text ∙ reads))
      ∙ ap answer (goes_on_bind _ _ (locks_kept W.P S J.sheets.program R W.γ ∙ enough_taken S J.locks)
      (goes_on_bind _ _ (start_kept W.P S J.sheets.program R W.γ ∙ at_most_one_start W.P S J.at_most_one)
      (filled_accepted W.P S J.sheets.program R W.γ (all_hold_none_false _ F.types_hold) found)))
