-- The lines of a split sheet, part by part as they are written.
use mathlib.Core.Path.{◌≡◌, sym, ap, ◌∙◌}
use mathlib.Core.List.{List, [], ◌∷◌, ◌++◌, map, append_assoc, map-append}
use Prim.Native.Nat.{ℕ, zero, suc, ◌+◌, ◌-◌, ◌*◌}
use native.Mathlib.Nat.{add-sub_cancel_left, zero-add, add-zero, suc-add}
use native.Mathlib.Omega.{arith}
use lib.ListN.{get_or, take, drop}
use borrow.Author.Tests.{eq-eqb, ne_eqb}
use Rattle.spec.specs.Text.{bytes, Field}
use Rattle.spec.specs.declared.Header.{Header}
use Rattle.spec.specs.declared.Heading.{Heading}
use Rattle.spec.specs.declared.Heading.TheVariants.{C, C2, C3}
use Rattle.spec.specs.declared.Purpose.TheVariants.{Check}
use Rattle.spec.specs.declared.MapNumber.{MapNumber}
use Rattle.spec.specs.declared.TypeNumber.{TypeNumber}
use Rattle.spec.specs.declared.Location.{Location}
use Rattle.spec.specs.declared.TypeLine.{TypeLine}
use Rattle.spec.specs.declared.TypeLine.TheVariants.{Int, Ref, Lock, Tid, Sem, Rwlock}
use Rattle.workspace.specs.Layout.{row_types_at, posts_at, starts_at, sig_befores_at, sig_arguments_at, sig_afters_at, sig_results_at, maps_at, stride, empty_map}
use Rattle.text_theory.specs.Text.{decimal, line, text}
use Rattle.text_theory.specs.Sheet.{heading_name, header_numbers, header_fields, out_number, type_fields, map_fields, signature_fields, post_shown, start_shown, row_fields, split_lines, sheet_text}
use Rattle.text_theory.proofs.Lines.{text_append}
use Rattle.split_writer.specs.Stored.{in_order, type_stored, map_in, signature_in, start_stored, row_in, split_in}

-- ------------------------------------------------------------------ lines in order

in_order_more : {A : Type 0} (f : ℕ → A) (i n : ℕ) → in_order f i (n + 1) ≡ in_order f i n ++ (f (i + n) ∷ [])
unfolding in_order
in_order_more f i zero = rw add-zero
in_order_more f i (suc n) = rw (suc-add, in_order_more f (i + 1) n) (ap (λ (j : ℕ). f i ∷ (in_order f (i + 1) n ++ (f j ∷ []))) (omega arith))

-- n lines, and one more
pub lines_more : {A : Type 0} (shown : A → List Field) (f : ℕ → A) (n : ℕ)
    → text (map shown (in_order f 0 (n + 1))) ≡ text (map shown (in_order f 0 n)) ++ text (shown (f n) ∷ [])
lines_more shown f n = rw (in_order_more f 0 n, zero-add, map-append, text_append)

-- the line of a map, as the part of the work space that is lent
pub map_parts : (locations : ℕ) (w : List ℕ) (m : ℕ)
    → text (map_fields (map_in locations w m) ∷ []) ≡ line (map decimal (take (maps_at + stride * m + locations - (maps_at + stride * m)) (drop (maps_at + stride * m) w))) []
unfolding line text map_fields map_in
map_parts locations w m = rw (add-sub_cancel_left (maps_at + stride * m) locations)

-- ------------------------------------------------------------------ the header

module _ (h : Header) where
  pub plain_header_parts : h.heading ≡ C → text (header_fields h ∷ [])
      ≡ bytes "C," ++ line (map decimal (h.denominator ∷ h.locations ∷ h.types ∷ h.maps ∷ [])) []
  unfolding bytes line text heading_name header_numbers header_fields
  plain_header_parts e = rw e

  pub started_header_parts : h.heading ≡ C2 → text (header_fields h ∷ [])
      ≡ bytes "C2," ++ line (map decimal (h.denominator ∷ h.locations ∷ h.types ∷ h.maps ∷ h.start.0 ∷ [])) []
  unfolding bytes line text heading_name header_numbers header_fields
  started_header_parts e = rw e

  pub in_out_header_parts : h.heading ≡ C3 → text (header_fields h ∷ [])
      ≡ bytes "C3," ++ line (map decimal (h.denominator ∷ h.locations ∷ h.types ∷ h.maps ∷ h.start.0 ∷ [])) []
  unfolding bytes line text heading_name header_numbers header_fields
  in_out_header_parts e = rw e

-- ------------------------------------------------------------------ type lines

module _ (heading : Heading) {τ : TypeLine} where
  pub int_parts : τ ≡ Int → text (type_fields heading τ ∷ []) ≡ bytes "int," ++ line (map decimal (0 ∷ 0 ∷ [])) []
  unfolding bytes line text type_fields
  int_parts e = rw e

  pub ref_parts : {p : Location} {t : TypeNumber} → τ ≡ Ref p t → text (type_fields heading τ ∷ []) ≡ bytes "ref," ++ line (map decimal (p.0 ∷ t.0 ∷ [])) []
  unfolding bytes line text type_fields
  ref_parts e = rw e

  pub lock_parts : {i o : MapNumber} {second : ℕ} → τ ≡ Lock i o → second ≡ out_number heading o
      → text (type_fields heading τ ∷ []) ≡ bytes "lock," ++ line (map decimal (i.0 ∷ second ∷ [])) []
  unfolding bytes line text type_fields
  lock_parts e s = rw (e, s)

  pub tid_parts : {k : MapNumber} → τ ≡ Tid k → text (type_fields heading τ ∷ []) ≡ bytes "tid," ++ line (map decimal (k.0 ∷ 0 ∷ [])) []
  unfolding bytes line text type_fields
  tid_parts e = rw e

  pub sem_parts : {k : MapNumber} → τ ≡ Sem k → text (type_fields heading τ ∷ []) ≡ bytes "sem," ++ line (map decimal (k.0 ∷ 0 ∷ [])) []
  unfolding bytes line text type_fields
  sem_parts e = rw e

  pub rwlock_parts : {r w : MapNumber} → τ ≡ Rwlock r w → text (type_fields heading τ ∷ []) ≡ bytes "rwlock," ++ line (map decimal (r.0 ∷ w.0 ∷ [])) []
  unfolding bytes line text type_fields
  rwlock_parts e = rw e

-- ------------------------------------------------------------------ procedures

pub signature_parts : (w : List ℕ) (f : ℕ) {b a c r : ℕ} → b ≡ get_or w (sig_befores_at + f) 0 → a ≡ get_or w (sig_arguments_at + f) 0
    → c ≡ get_or w (sig_afters_at + f) 0 → r ≡ get_or w (sig_results_at + f) 0
    → text (signature_fields (signature_in w f) ∷ []) ≡ line (map decimal (b ∷ a ∷ c ∷ r ∷ [])) []
unfolding line text signature_fields signature_in
signature_parts w f before argument after result = rw (before, argument, after, result)

-- ------------------------------------------------------------------ rows

module _ (w : List ℕ) (i : ℕ) {t m s : ℕ} (typed : t ≡ get_or w (row_types_at + i) 0) (left : m ≡ get_or w (posts_at + i) 0) (starts : s ≡ get_or w (starts_at + i) 0) where
  pub row_parts : s ≡ empty_map → text (row_fields Check (row_in w i) ∷ []) ≡ (decimal t ++ (44 ∷ [])) ++ ((decimal m ++ (44 ∷ [])) ++ (10 ∷ []))
  unfolding line text post_shown start_shown row_fields start_stored row_in
  row_parts e = rw (typed, left, eq-eqb (get_or w (starts_at + i) 0) empty_map (sym starts ∙ e)) (simp append_assoc)

  pub start_row_parts : (s ≡ empty_map → ⊥)
      → text (row_fields Check (row_in w i) ∷ []) ≡ (decimal t ++ (44 ∷ [])) ++ ((decimal m ++ (44 ∷ [])) ++ (decimal s ++ (10 ∷ [])))
  unfolding line text post_shown start_shown row_fields start_stored row_in
  start_row_parts n = rw (typed, left, starts, ne_eqb (get_or w (starts_at + i) 0) empty_map (λ e. n (starts ∙ e))) (simp append_assoc)

-- ------------------------------------------------------------------ the sheet

pub sheet_parts : (H : Header) (procedures steps : ℕ) (w : List ℕ) → sheet_text (split_in H procedures steps w)
    ≡ text (header_fields H ∷ []) ++ (text (map (type_fields H.heading) (in_order (type_stored w) 0 H.types))
    ++ (text (map map_fields (in_order (map_in H.locations w) 0 H.maps))
    ++ (text (map signature_fields (in_order (signature_in w) 0 procedures)) ++ text (map (row_fields Check) (in_order (row_in w) 0 steps)))))
unfolding sheet_text split_lines split_in
sheet_parts H procedures steps w =
    let T = map (type_fields H.heading) (in_order (type_stored w) 0 H.types) in
    let M = map map_fields (in_order (map_in H.locations w) 0 H.maps) in
    let R = map (row_fields Check) (in_order (row_in w) 0 steps) in
    let G = map signature_fields (in_order (signature_in w) 0 procedures) in
    text_append (header_fields H ∷ []) (T ++ (M ++ (G ++ R)))
    ∙ ap (λ (x : List ℕ). text (header_fields H ∷ []) ++ x)
    (text_append T (M ++ (G ++ R)) ∙ ap (λ (x : List ℕ). text T ++ x) (text_append M (G ++ R) ∙ ap (λ (x : List ℕ). text M ++ x) (text_append G R)))
