-- One turn more of the loops that store what a line says.
use Rattle.std.proofs.Common.{Ok, Err}
use mathlib.Core.Path.{◌≡◌, sym, ap, subst, ◌∙◌}
use mathlib.Core.Logic.{inl}
use mathlib.Core.List.{List, [], ◌∷◌, ◌++◌}
use Prim.Native.Nat.{ℕ, ◌+◌, ◌-◌, ◌*◌, ◌<◌, ◌≤◌}
use native.Mathlib.Omega.{arith}
use lib.ListN.{length, get_or, set, take, drop, length-drop}
use lib.Seq.{length-take-le}
use Rattle.spec.specs.Text.{Field}
use Rattle.spec.specs.Reading.{split_sheet, LineResult, Place, read_line, read_lines}
use Rattle.spec.specs.Split.{Map}
use Rattle.spec.specs.declared.Signature.{Signature}
use Rattle.spec.specs.declared.Header.{Header}
use Rattle.spec.specs.declared.Purpose.{Purpose}
use Rattle.spec.specs.declared.Refusal.{Refusal}
use Rattle.spec.specs.declared.Word.{Word}
use Rattle.lexer.specs.Cursors.{Placed, place_at}
use Rattle.lexer.specs.declared.Cursor.{Cursor}
use Rattle.lexer.proofs.LoopSteps.{numbered}
use Rattle.workspace.specs.Layout.{words_at, row_types_at, pres_at, sig_befores_at, sig_results_at, maps_at, stride, work_size, word_of}
use Rattle.workspace.specs.Region.{ChangedWithin}
use Rattle.workspace.specs.Steps.{word_at, step_at}
use Rattle.split_lines.specs.TypeLines.{cell_line}
use Rattle.split_lines.specs.RowLines.{word_line}
use Rattle.split.specs.Stored.{Columns, HoldsSignatures, signed, HoldsMaps, LinesStored}
use Rattle.split.proofs.LoopSteps.{Stage, stage_on, stage_stops}
use Rattle.split.proofs.Stores.{columns_push, columns_changed, signatures_push, signatures_changed, filled_changed, filled_region, maps_push}

-- a line whose three numbers go into three columns
module _
    {A : Type 0} (f g h : A → ℕ) (b rows : ℕ) {n : ℕ} {read : ℕ → List Field → LineResult A} {text w₀ : List ℕ} {from : Place} {w : List ℕ} {c : Cursor} {i : ℕ}
    (few : n ≤ rows) (room : b + rows + rows + rows ≤ length w₀)
    (s : Stage read (Columns f g h b rows) b (b + rows + rows + rows) n text w₀ from w c i)
  where
    pub columns_on : i < n → {w' : List ℕ} {entry : A} {d : Cursor} → read_line split_sheet (read i) (place_at text c) ≡ Ok (entry, place_at text d) → Placed text d
        → w' ≡ set (set (set w (b + i) (f entry)) (b + rows + i) (g entry)) (b + rows + rows + i) (h entry)
        → Stage read (Columns f g h b rows) b (b + rows + rows + rows) n text w₀ from w' d (i + 1)
    columns_on l {entry = entry} e p q =
        let r : b + rows + rows + rows ≤ length w = omega (arith, s.changed.long) in
        stage_on s l e p
        (subst (λ (x : List ℕ). Columns f g h b rows x (s.entries ++ (entry ∷ []))) (sym q)
        (columns_push f g h b rows w s.entries entry i s.loop_step.count (omega arith) r s.stored))
        (subst (ChangedWithin b (b + rows + rows + rows) w) (sym q) (columns_changed f g h b rows w s.entries entry i s.loop_step.count (omega arith) r))

-- a signature, whose four numbers go into four columns
pub signatures_on : {k : ℕ} {read : ℕ → List Field → LineResult Signature} {text w₀ : List ℕ} {from : Place} {w : List ℕ} {c : Cursor} {f : ℕ}
    → k ≤ 16 → length w₀ ≡ work_size → Stage read HoldsSignatures sig_befores_at (sig_results_at + 16) k text w₀ from w c f → f < k
    → {w' : List ℕ} {entry : Signature} {d : Cursor} → read_line split_sheet (read f) (place_at text c) ≡ Ok (entry, place_at text d) → Placed text d
    → w' ≡ signed w f entry → Stage read HoldsSignatures sig_befores_at (sig_results_at + 16) k text w₀ from w' d (f + 1)
signatures_on {w = w} {f = f} few whole s l {entry = entry} e p q =
    let long : length w ≡ work_size = s.changed.long ∙ whole in
    stage_on s l e p
    (subst (λ (x : List ℕ). HoldsSignatures x (s.entries ++ (entry ∷ []))) (sym q)
    (signatures_push w s.entries entry f s.loop_step.count (omega arith) long s.stored))
    (subst (ChangedWithin sig_befores_at (sig_results_at + 16) w) (sym q) (signatures_changed w s.entries entry f s.loop_step.count (omega arith) long))

-- the word that a row is read for is that of its step, which no row has changed
pub row_here : (purpose : Purpose) (H : Header) (text : List ℕ) (c : Cursor) {w₀ w : List ℕ} (k : ℕ) {word : Word} → word ≡ word_of (get_or w (words_at + k) 0) → k < 256 → ChangedWithin row_types_at pres_at w₀ w
    → read_line split_sheet (word_line purpose H (step_at w₀ k).word) (place_at text c) ≡ read_line split_sheet (word_line purpose H word) (place_at text c)
unfolding word_at
row_here purpose H text c {w₀ = w₀} {w = w} k e l x =
    let same : get_or w (words_at + k) 0 ≡ get_or w₀ (words_at + k) 0 = x.kept (words_at + k) (inl (omega arith)) in
    ap (λ (v : Word). read_line split_sheet (word_line purpose H v) (place_at text c)) (ap word_of (sym same) ∙ sym e)

-- a map line, whose numbers are read into their part of the work space
module _
    {locations n : ℕ} {text w₀ : List ℕ} {from : Place} {w : List ℕ} {c : Cursor} {i : ℕ}
    (narrow : locations ≤ 16) (few : n ≤ 512) (long : length w₀ ≡ work_size)
    (s : Stage (λ m. cell_line locations) (HoldsMaps locations) maps_at work_size n text w₀ from w c i) (less : i < n)
  where
    abbrev at : ℕ
    at = maps_at + stride * i

    abbrev past : ℕ
    past = at + locations

    abbrev part : List ℕ
    part = take (past - at) (drop at w)

    -- the work space with numbers in the part's place
    abbrev put : List ℕ → List ℕ
    put ys = take at w ++ (ys ++ drop (past - at) (drop at w))

    wide : past - at ≡ locations
    wide = omega arith

    room : at + (past - at) ≤ length w
    room = omega (arith, wide, s.changed.long)

    part_long : length part ≡ locations
    part_long = length-take-le (past - at) (drop at w) (omega (arith, room, length-drop at w)) ∙ wide

    module _ (ys : List ℕ) (kept : length ys ≡ length part) where
      whole : length ys ≡ past - at
      whole = kept ∙ part_long ∙ sym wide

      put_changed : ChangedWithin maps_at work_size w (put ys)
      put_changed = filled_changed w at ys (past - at) whole room maps_at work_size (omega arith) (omega (arith, wide))

      pub map_long : length (put ys) ≡ length w₀
      map_long = put_changed.long ∙ s.changed.long

      pub map_stops : {reads : List (List Field → LineResult Map)} → reads ≡ numbered (λ m. cell_line locations) 0 n → {r : Refusal}
          → read_line split_sheet (cell_line (length part)) (place_at text c) ≡ Err r
          → LinesStored maps_at work_size n (HoldsMaps locations) text (read_lines split_sheet reads from) w₀ (put ys) (Err r)
      map_stops q e = stage_stops s q less (rw (← part_long) e) put_changed

      pub map_on : {d : Cursor} → read_line split_sheet (cell_line (length part)) (place_at text c) ≡ Ok (ys, place_at text d) → Placed text d
          → Stage (λ m. cell_line locations) (HoldsMaps locations) maps_at work_size n text w₀ from (put ys) d (i + 1)
      map_on e p =
          stage_on s less (rw (← part_long) e) p
          (maps_push locations narrow w (put ys) s.entries ys (kept ∙ part_long) i s.loop_step.count s.stored
          (filled_changed w at ys (past - at) whole room at past (omega arith) (omega (arith, wide)))
          (filled_region w at ys (past - at) whole room))
          put_changed
