-- What the conditions of a step look at, as the columns of the work space show it.
use Rattle.std.specs.Prelude.{List, ℕ, ◌+◌, ◌-◌, ltb, get_or}
use Rattle.spec.specs.Choice.{when◌then◌else◌}
use Rattle.spec.specs.declared.TypeNumber.{TypeNumber}
use Rattle.workspace.specs.Layout.{values_at, ends_at, lets_at, lines_at, proc_mark, row_types_at, posts_at, starts_at, pres_at, sig_befores_at, sig_arguments_at, sig_afters_at, sig_results_at}
use Rattle.spec.specs.declared.Signature.{Signature}
use Rattle.rule_rows.specs.declared.StepView.{StepView}

-- entry i of the column that begins at b
abbrev pub cell : (w : List ℕ) → (b i : ℕ) → ℕ
cell w b i = get_or w (b + i) 0

-- the signature of procedure f
abbrev pub signature_of : (w : List ℕ) → (f : ℕ) → Signature
signature_of w f = record {
  before = record { 0 = cell w sig_befores_at f };
  argument = record { 0 = cell w sig_arguments_at f };
  after = record { 0 = cell w sig_afters_at f };
  result = record { 0 = cell w sig_results_at f };
}

-- the type of the variable that the let at this index binds, or the procedure with this mark
unfoldable pub bound_of : (w : List ℕ) → (binder : ℕ) → TypeNumber
bound_of w binder =
    when ltb binder proc_mark
    then record { 0 = cell w (row_types_at + 1) binder }
    else record { 0 = cell w sig_arguments_at (binder - proc_mark) }

-- what the conditions of step k look at: a first part stands just behind its step, a second part at the end of the first,
-- the e1 of a let just behind the let
abbrev pub view_of : (w : List ℕ) → (locations denominator k : ℕ) → StepView
view_of w locations denominator k = record {
  line = cell w lines_at k;
  value = cell w values_at k;
  locations = locations;
  denominator = denominator;
  typed = record { 0 = cell w row_types_at k };
  type1 = record { 0 = cell w (row_types_at + 1) k };
  type2 = record { 0 = cell w row_types_at (cell w (ends_at + 1) k) };
  bound = bound_of w (cell w lets_at k);
  pre = record { 0 = cell w pres_at k };
  post = record { 0 = cell w posts_at k };
  start = record { 0 = cell w starts_at k };
  post1 = record { 0 = cell w (posts_at + 1) k };
  post2 = record { 0 = cell w posts_at (cell w (ends_at + 1) k) };
  signature = signature_of w (cell w values_at k);
}

-- what every step shows of its view, what one without parts, with one part and with two; at the rest its conditions do not look
abbrev no_signature : Signature
no_signature = record { before = record { 0 = 0 }; argument = record { 0 = 0 }; after = record { 0 = 0 }; result = record { 0 = 0 } }

abbrev pub own_view : StepView → StepView
own_view s = record {
  line = s.line;
  value = 0;
  locations = s.locations;
  denominator = s.denominator;
  typed = s.typed;
  type1 = record { 0 = 0 };
  type2 = record { 0 = 0 };
  bound = record { 0 = 0 };
  pre = record { 0 = 0 };
  post = s.post;
  start = record { 0 = 0 };
  post1 = record { 0 = 0 };
  post2 = record { 0 = 0 };
  signature = no_signature;
}

abbrev pub leaf_view : StepView → StepView
leaf_view s = record {
  line = s.line;
  value = s.value;
  locations = s.locations;
  denominator = s.denominator;
  typed = s.typed;
  type1 = record { 0 = 0 };
  type2 = record { 0 = 0 };
  bound = s.bound;
  pre = s.pre;
  post = s.post;
  start = record { 0 = 0 };
  post1 = record { 0 = 0 };
  post2 = record { 0 = 0 };
  signature = no_signature;
}

abbrev pub unary_view : StepView → StepView
unary_view s = record {
  line = s.line;
  value = s.value;
  locations = s.locations;
  denominator = s.denominator;
  typed = s.typed;
  type1 = s.type1;
  type2 = record { 0 = 0 };
  bound = record { 0 = 0 };
  pre = s.pre;
  post = s.post;
  start = s.start;
  post1 = s.post1;
  post2 = record { 0 = 0 };
  signature = s.signature;
}

abbrev pub binary_view : StepView → StepView
binary_view s = record {
  line = s.line;
  value = 0;
  locations = s.locations;
  denominator = s.denominator;
  typed = s.typed;
  type1 = s.type1;
  type2 = s.type2;
  bound = record { 0 = 0 };
  pre = record { 0 = 0 };
  post = s.post;
  start = s.start;
  post1 = s.post1;
  post2 = s.post2;
  signature = no_signature;
}
