use Rattle.std.proofs.Common.{refl, ap, ◌∙◌}
use Rattle.std.proofs.lemmas.Bool.{eq-eqb}
use Rattle.dart_ir.specs.Object.{HeadTy}
use Rattle.dart_ir.specs.declared.kind.SiteKind.TheVariants as kind
use Rattle.core_program.specs.ProgramView as p
use Rattle.evaluation.specs.Checks.{passes_kind}
use Rattle.evaluation.specs.Values.{head_of}
use Rattle.machine_frame.specs.Outside.{checking_of, setting_of}
use Rattle.machine_frame.proofs.sites.surely_passes.Goals as goal

pub returns-in-VarInit : goal.returns-in-VarInit
returns-in-VarInit c = λ e args.
    ap (λ k. passes_kind (checking_of c.args.a) k (p.ty_option c.args.site.now.required) (head_of (setting_of c.args.a) c.args.run.now.store c.args.value) args) c.in-VarInit.is
    ∙ c.surely_has_type.ensures e args

pub returns-in-Assign : goal.returns-in-Assign
returns-in-Assign c = λ e args.
    ap (λ k. passes_kind (checking_of c.args.a) k (p.ty_option c.args.site.now.required) (head_of (setting_of c.args.a) c.args.run.now.store c.args.value) args) c.in-Assign.is
    ∙ c.surely_has_type-in-Assign.ensures e args

pub returns-in-FieldStore : goal.returns-in-FieldStore
returns-in-FieldStore c = λ e args.
    ap (λ k. passes_kind (checking_of c.args.a) k (p.ty_option c.args.site.now.required) (head_of (setting_of c.args.a) c.args.run.now.store c.args.value) args) c.in-FieldStore.is
    ∙ c.surely_has_type-in-FieldStore.ensures e args

pub returns-in-FieldInit : goal.returns-in-FieldInit
returns-in-FieldInit c = λ e args.
    ap (λ k. passes_kind (checking_of c.args.a) k (p.ty_option c.args.site.now.required) (head_of (setting_of c.args.a) c.args.run.now.store c.args.value) args) c.in-FieldInit.is
    ∙ c.surely_has_type-in-FieldInit.ensures e args

pub returns-in-Param : goal.returns-in-Param
returns-in-Param c = λ e args.
    ap (λ k. passes_kind (checking_of c.args.a) k (p.ty_option c.args.site.now.required) (head_of (setting_of c.args.a) c.args.run.now.store c.args.value) args) c.in-Param.is
    ∙ c.surely_has_type-in-Param.ensures e args

pub returns-in-Return : goal.returns-in-Return
returns-in-Return c = λ e args.
    ap (λ k. passes_kind (checking_of c.args.a) k (p.ty_option c.args.site.now.required) (head_of (setting_of c.args.a) c.args.run.now.store c.args.value) args) c.in-Return.is
    ∙ c.surely_has_type-in-Return.ensures e args

pub returns-in-Element : goal.returns-in-Element
returns-in-Element c = λ e args.
    ap (λ k. passes_kind (checking_of c.args.a) k (p.ty_option c.args.site.now.required) (head_of (setting_of c.args.a) c.args.run.now.store c.args.value) args) c.in-Element.is
    ∙ c.surely_has_type-in-Element.ensures e args

pub returns-in-Condition : goal.returns-in-Condition
returns-in-Condition c = λ e args.
    ap (λ k. passes_kind (checking_of c.args.a) k (p.ty_option c.args.site.now.required) (head_of (setting_of c.args.a) c.args.run.now.store c.args.value) args) c.in-Condition.is
    ∙ ap (λ (h : HeadTy). passes_kind (checking_of c.args.a) kind.Condition (p.ty_option c.args.site.now.required) h args) (c.is_boolean.ensures e c.args.a c.args.run.now.store)
    ∙ eq-eqb _ _ refl

pub returns-in-NullCondition : goal.returns-in-NullCondition
returns-in-NullCondition c = λ e args.
    ap (λ k. passes_kind (checking_of c.args.a) k (p.ty_option c.args.site.now.required) (head_of (setting_of c.args.a) c.args.run.now.store c.args.value) args) c.in-NullCondition.is
    ∙ ap (λ (h : HeadTy). passes_kind (checking_of c.args.a) kind.NullCondition (p.ty_option c.args.site.now.required) h args) (c.is_boolean-in-NullCondition.ensures e c.args.a c.args.run.now.store)
    ∙ refl
