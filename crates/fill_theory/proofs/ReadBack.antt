-- A filled split that is written reads back, and what the given sheet shows is kept as it stood.
use Rattle.std.proofs.Common.{Ok}
use mathlib.Core.Path.{◌≡◌, ap, sym, ◌∙◌}
use mathlib.Core.Path.{subst as along}
use mathlib.Core.List.{List, [], ◌++◌, map, map-append, append_assoc}
use Prim.Native.Nat.{ℕ, ◌+◌, ◌-◌, ◌≤◌, ◌<◌}
use native.Mathlib.Omega.{arith}
use native.Mathlib.Decide.{dec_lt}
use lib.ListN.{length, get_or, get_or-append}
use lib.Seq.{get_or-append-add}
use Rattle.spec.specs.Text.{Field}
use Rattle.spec.specs.Program.{Program}
use Rattle.spec.specs.Split.{Map, Split, split}
use Rattle.spec.specs.WellFormed.{WellFormedSplit}
use Rattle.spec.specs.Accepted.{AtMost}
use Rattle.spec.specs.declared.Purpose.TheVariants.{Check, Fill}
use Rattle.text_theory.specs.Text.{line, text}
use Rattle.text_theory.specs.Sheet.{header_fields, type_fields, map_fields, signature_fields, row_fields, split_lines, sheet_text, unfilled}
use Rattle.text_theory.specs.Writable.{RowStarts, Writable}
use Rattle.text_theory.proofs.Lines.{text_append}
use Rattle.text_theory.proofs.Sheet.{written_reads_back}
use Rattle.text_theory.proofs.Readable.{read_is_writable}
use Rattle.text_theory.proofs.Spelling.{read_as_written}
use Rattle.fill_theory.specs.Filled.{with_posts, filled}
use Rattle.fill_theory.specs.Answer.{number_limit}
use Rattle.fill_theory.proofs.Kept.{rows_kept}
use Rattle.fill_theory.proofs.InRange.{filled_in_range}

module _ (S : Split) (γ : List Map) (few : S.header.maps + length γ ≤ 512)
    (wide : (i : ℕ) → i < length γ → length (get_or γ i []) ≡ S.header.locations)
    (small : (i : ℕ) → AtMost number_limit (get_or γ i [])) where
  -- given maps and new ones
  maps_small : ((m : ℕ) → AtMost 1000000000 (get_or S.maps m [])) → (m : ℕ) → AtMost 1000000000 (get_or (S.maps ++ γ) m [])
  unfolding number_limit
  maps_small given m = from (dec_lt m (length S.maps))
    where
      from : Dec (m < length S.maps) → AtMost 1000000000 (get_or (S.maps ++ γ) m [])
      from (yes q) = along (AtMost 1000000000) (sym (get_or-append S.maps γ [] m q)) (given m)
      from (no q) =
          let index : length S.maps + (m - length S.maps) ≡ m = omega (arith, q) in
          along (λ (n : ℕ). AtMost 1000000000 (get_or (S.maps ++ γ) n [])) index
          (along (AtMost 1000000000) (sym (get_or-append-add S.maps γ (m - length S.maps) [])) (small (m - length S.maps)))

  filled_writable : {P : Program} → length γ ≡ length P.steps → Writable P S → Writable P (filled S γ)
  unfolding filled
  filled_writable {P} counted W = record {
    in_range = filled_in_range (record { in_range = W.in_range; counted = counted; wide = wide }) few;
    start = W.start;
    lock_shows = W.lock_shows;
    numbers_small = maps_small W.numbers_small;
    row_starts = λ i s r h.
        along (RowStarts S.header.heading (get_or P.steps i s).word) (sym (rows_kept S.header.maps S.rows i r).1) (W.row_starts i s r h);
  }

  -- a sheet that was read to be filled, with maps filled in, is a whole sheet
  pub filled_reads_back : {P : Program} {given : List ℕ} → length γ ≡ length P.steps → WellFormedSplit Fill P given S
      → split Check P (sheet_text (filled S γ)) ≡ Ok (filled S γ)
  filled_reads_back counted F = written_reads_back (filled_writable counted (read_is_writable F))

-- ------------------------------------------------------------------ what is kept

-- the lines of the types and of the given maps
unfoldable pub kept_lines : Split → List (List Field)
kept_lines S = map (type_fields S.header.heading) S.types ++ map map_fields S.maps

-- "The rest of each line is kept": of the given text and of the whole one, these lines and those of the procedures are the same bytes;
-- the rows show the same t and s
pub rest_kept : {P : Program} {given : List ℕ} (S : Split) (γ : List Map) → WellFormedSplit Fill P given S
    → (given ≡ line (header_fields S.header) (text (kept_lines S) ++ text (map signature_fields S.signatures ++ map (row_fields Fill) S.rows)))
    × (sheet_text (filled S γ)
    ≡ line (header_fields (filled S γ).header)
    (text (kept_lines S) ++ (text (map map_fields γ) ++ text (map signature_fields S.signatures ++ map (row_fields Check) (with_posts S.header.maps S.rows)))))
unfolding kept_lines sheet_text unfilled split_lines text filled
rest_kept S γ F =
    let T = map (type_fields S.header.heading) S.types in
    let M = map map_fields S.maps in
    let G = map map_fields γ in
    let R = map signature_fields S.signatures ++ map (row_fields Fill) S.rows in
    let R' = map signature_fields S.signatures ++ map (row_fields Check) (with_posts S.header.maps S.rows) in (
      sym (read_as_written F) ∙ ap (line (header_fields S.header)) (ap text (sym (append_assoc T M R)) ∙ text_append (T ++ M) R),
      ap (line (header_fields (filled S γ).header))
          (ap (λ (x : List (List Field)). text (T ++ (x ++ R'))) (map-append map_fields S.maps γ)
          ∙ ap (λ (x : List (List Field)). text (T ++ x)) (append_assoc M G R')
          ∙ ap text (sym (append_assoc T M (G ++ R')))
          ∙ text_append (T ++ M) (G ++ R')
          ∙ ap (λ (x : List ℕ). text (T ++ M) ++ x) (text_append G R')),
    )
