-- The next of a list of forms' parts, and what it uses.
use Rattle.std.proofs.Common.{◌≡◌, ℕ, suc, ◌+◌, ◌<◌, List, [], ◌∷◌, ◌++◌, map, refl, sym, ap, ◌∙◌, subst, length, get_or, drop, add-one, drop-cons, append_assoc}
use Rattle.std.specs.List.{flat_map}
use Rattle.std.proofs.lemmas.Grind.{flat_map-append}
use Rattle.std.specs.Global.{Vec}
use Rattle.dart_ir.specs.declared.number.ClassId.{ClassId}
use Rattle.dart_ir.specs.declared.number.DeclId.{DeclId}
use Rattle.dart_ir.specs.declared.types.TypeRef.{TypeRef}
use Rattle.core_program.specs.Captured.{form_nodes, cores_nodes, test_nodes, nodes, handlers_nodes, cases_nodes}
use Rattle.core_program.specs.Core as c
use Rattle.core_program.specs.Named as with_names
use Rattle.core_program.specs.Program as p
use Rattle.core_program.specs.ProgramView.{text_at}
use Rattle.core_program.specs.View as v
use Rattle.core_program.specs.declared.form.Arguments.{Arguments, out-Arguments}
use Rattle.core_program.specs.declared.form.Case.{Case, out-Case}
use Rattle.core_program.specs.declared.form.Form as k
use Rattle.core_program.specs.declared.form.Handler.{Handler, out-Handler}
use Rattle.core_program.specs.declared.form.Job.{Job}
use Rattle.core_program.proofs.Views.{view_row, view_new, arguments_out, handler_out, case_out}
use Rattle.translation.specs.Surroundings.{Text, Core}
use Rattle.translation.specs.Walk as w
use Rattle.lower_leaf.specs.Around.{Around}
use Rattle.lower_leaf.specs.Forms.{core, cores}
use Rattle.lower_leaf.specs.Seen.{numbered_function}
use Rattle.lower_leaf.specs.declared.state.NumberedFunction.{NumberedFunction}
use Rattle.lower_leaf.proofs.FormLaws.{cores_named}
use Rattle.lower_function.specs.Uses.{form, handler, handlers, case, cases, test, uses_in, core_uses, handler_uses, handlers_uses, taken_of}
use Rattle.lower_function.specs.declared.uses.Use.{Use}

abbrev Functions : Type 0
Functions = List (w.Made (p.Function Text))

-- ---- operands

pub row_nodes : (a : Around) (x : Job) (r : Arguments) → form_nodes (form a (k.Row x r)) ≡ cores_nodes (c.cores (cores a (out-Arguments r).forms.items))
unfolding form core
row_nodes a x r = ap (λ (y : c.Form ℕ). form_nodes (with_names.form (text_at a.texts) y)) (view_row x r)
    ∙ ap (λ (z : v.Row). cores_nodes (with_names.cores (text_at a.texts) z.0)) (arguments_out r)
    ∙ ap (λ (xs : c.Cores Text). cores_nodes xs) (cores_named (text_at a.texts) (out-Arguments r).forms.items)

pub new_nodes : (a : Around) (g : ClassId) (d : DeclId) (ts : Vec TypeRef) (r : Arguments) →
    form_nodes (form a (k.New g d ts r)) ≡ cores_nodes (c.cores (cores a (out-Arguments r).forms.items))
unfolding form core
new_nodes a g d ts r = ap (λ (y : c.Form ℕ). form_nodes (with_names.form (text_at a.texts) y)) (view_new g d ts r)
    ∙ ap (λ (z : v.Row). cores_nodes (with_names.cores (text_at a.texts) z.0)) (arguments_out r)
    ∙ ap (λ (xs : c.Cores Text). cores_nodes xs) (cores_named (text_at a.texts) (out-Arguments r).forms.items)

pub ruleset operands = (row_nodes, new_nodes)

-- ---- lists

dropped : {A : Type 0} (xs ys : List A) (i : ℕ) (x : A) → ys ≡ xs → i < length ys → x ≡ get_or ys i x → drop i xs ≡ x ∷ drop (i + 1) xs
dropped {A = A} xs ys i x same below is =
    drop-cons xs i x (let P : List A → Type 0 = λ l. i < length l in subst P same below)
    ∙ ap (λ (z : A). z ∷ drop (suc i) xs) (sym (is ∙ ap (λ (l : List A). get_or l i x) same)) ∙ ap (λ (n : ℕ). x ∷ drop n xs) (sym (add-one i))

-- one more is walked over
more : (found found2 new rest whole target : List Use) → whole ≡ new ++ rest → found2 ≡ found ++ new → found ++ whole ≡ target → found2 ++ rest ≡ target
more found found2 new rest whole target split pushed done =
    ap (λ (l : List Use). l ++ rest) pushed ∙ append_assoc found new rest ∙ ap (λ (l : List Use). found ++ l) (sym split) ∙ done

-- and one of two parts
twice : (found found1 found2 one two : List Use) → found1 ≡ found ++ one → found2 ≡ found1 ++ two → found2 ≡ found ++ (one ++ two)
twice found found1 found2 one two first second = second ∙ ap (λ (l : List Use). l ++ two) first ∙ append_assoc found one two

pub taken_step : (a : Around) (n : ℕ) (xs ys : List NumberedFunction) (i : ℕ) (x : NumberedFunction) (found found2 target : List Use) →
    ys ≡ xs → i < length ys → x ≡ get_or ys i x → found2 ≡ found ++ taken_of n (numbered_function a x) →
    found ++ flat_map (taken_of n) (map (numbered_function a) (drop i xs)) ≡ target →
    found2 ++ flat_map (taken_of n) (map (numbered_function a) (drop (i + 1) xs)) ≡ target
taken_step a n xs ys i x found found2 target same below is pushed done =
    more found found2 (taken_of n (numbered_function a x)) (flat_map (taken_of n) (map (numbered_function a) (drop (i + 1) xs)))
    (flat_map (taken_of n) (map (numbered_function a) (drop i xs))) target
    (ap (λ (l : List NumberedFunction). flat_map (taken_of n) (map (numbered_function a) l)) (dropped xs ys i x same below is)) pushed done

-- ---- handlers and cases

handler_seen : (a : Around) (x : Handler) → handler a x ≡ c.handler (test a (out-Handler x).test) (out-Handler x).exception (out-Handler x).trace (core a (out-Handler x).body)
unfolding handler test core
handler_seen a x = ap (with_names.handler (text_at a.texts)) (handler_out x)

case_seen : (a : Around) (x : Case) → case a x ≡ c.case (out-Case x).value (core a (out-Case x).body)
unfolding case core
case_seen a x = ap (with_names.case (text_at a.texts)) (case_out x)

caught_next : (a : Around) (x : Handler) (xs : List Handler) →
    handlers_uses (handlers a (x ∷ xs)) ≡ (handler_uses (out-Handler x).exception ++ handler_uses (out-Handler x).trace) ++ handlers_uses (handlers a xs)
caught_next a x xs = ap (λ (h : c.Handler Text). handlers_uses (c.handler_more h (handlers a xs))) (handler_seen a x)

pub caught_step : (a : Around) (xs ys : List Handler) (i : ℕ) (x : Handler) (found found1 found2 target : List Use) →
    ys ≡ xs → i < length ys → x ≡ get_or ys i x → found1 ≡ found ++ handler_uses (out-Handler x).exception → found2 ≡ found1 ++ handler_uses (out-Handler x).trace →
    found ++ handlers_uses (handlers a (drop i xs)) ≡ target → found2 ++ handlers_uses (handlers a (drop (i + 1) xs)) ≡ target
caught_step a xs ys i x found found1 found2 target same below is first second done =
    more found found2 (handler_uses (out-Handler x).exception ++ handler_uses (out-Handler x).trace) (handlers_uses (handlers a (drop (i + 1) xs)))
    (handlers_uses (handlers a (drop i xs))) target
    (ap (λ (l : List Handler). handlers_uses (handlers a l)) (dropped xs ys i x same below is) ∙ caught_next a x (drop (i + 1) xs))
    (twice found found1 found2 (handler_uses (out-Handler x).exception) (handler_uses (out-Handler x).trace) first second) done

abbrev handler_part : Around → Functions → Handler → List Use
handler_part a fs x = uses_in fs (test_nodes (test a (out-Handler x).test)) ++ uses_in fs (nodes (core a (out-Handler x).body))

handlers_next : (a : Around) (fs : Functions) (x : Handler) (xs : List Handler) →
    uses_in fs (handlers_nodes (handlers a (x ∷ xs))) ≡ handler_part a fs x ++ uses_in fs (handlers_nodes (handlers a xs))
handlers_next a fs x xs =
    ap (λ (h : c.Handler Text). uses_in fs (handlers_nodes (c.handler_more h (handlers a xs)))) (handler_seen a x)
    ∙ flat_map-append (core_uses fs) (test_nodes (test a (out-Handler x).test) ++ nodes (core a (out-Handler x).body)) (handlers_nodes (handlers a xs))
    ∙ ap (λ (l : List Use). l ++ uses_in fs (handlers_nodes (handlers a xs))) (flat_map-append (core_uses fs) (test_nodes (test a (out-Handler x).test)) (nodes (core a (out-Handler x).body)))

pub handlers_step : (a : Around) (fs : Functions) (xs ys : List Handler) (i : ℕ) (x : Handler) (found found1 found2 target : List Use) →
    ys ≡ xs → i < length ys → x ≡ get_or ys i x → found1 ≡ found ++ uses_in fs (test_nodes (test a (out-Handler x).test)) →
    found2 ≡ found1 ++ uses_in fs (nodes (core a (out-Handler x).body)) →
    found ++ uses_in fs (handlers_nodes (handlers a (drop i xs))) ≡ target → found2 ++ uses_in fs (handlers_nodes (handlers a (drop (i + 1) xs))) ≡ target
handlers_step a fs xs ys i x found found1 found2 target same below is first second done =
    more found found2 (handler_part a fs x) (uses_in fs (handlers_nodes (handlers a (drop (i + 1) xs)))) (uses_in fs (handlers_nodes (handlers a (drop i xs)))) target
    (ap (λ (l : List Handler). uses_in fs (handlers_nodes (handlers a l))) (dropped xs ys i x same below is) ∙ handlers_next a fs x (drop (i + 1) xs))
    (twice found found1 found2 (uses_in fs (test_nodes (test a (out-Handler x).test))) (uses_in fs (nodes (core a (out-Handler x).body))) first second) done

cases_next : (a : Around) (fs : Functions) (x : Case) (xs : List Case) →
    uses_in fs (cases_nodes (cases a (x ∷ xs))) ≡ uses_in fs (nodes (core a (out-Case x).body)) ++ uses_in fs (cases_nodes (cases a xs))
cases_next a fs x xs =
    ap (λ (h : c.Case Text). uses_in fs (cases_nodes (c.case_more h (cases a xs)))) (case_seen a x)
    ∙ flat_map-append (core_uses fs) (nodes (core a (out-Case x).body)) (cases_nodes (cases a xs))

pub cases_step : (a : Around) (fs : Functions) (xs ys : List Case) (i : ℕ) (x : Case) (found found2 target : List Use) →
    ys ≡ xs → i < length ys → x ≡ get_or ys i x → found2 ≡ found ++ uses_in fs (nodes (core a (out-Case x).body)) →
    found ++ uses_in fs (cases_nodes (cases a (drop i xs))) ≡ target → found2 ++ uses_in fs (cases_nodes (cases a (drop (i + 1) xs))) ≡ target
cases_step a fs xs ys i x found found2 target same below is pushed done =
    more found found2 (uses_in fs (nodes (core a (out-Case x).body))) (uses_in fs (cases_nodes (cases a (drop (i + 1) xs)))) (uses_in fs (cases_nodes (cases a (drop i xs)))) target
    (ap (λ (l : List Case). uses_in fs (cases_nodes (cases a l))) (dropped xs ys i x same below is) ∙ cases_next a fs x (drop (i + 1) xs)) pushed done
