use Rattle.std.proofs.Common.{◌≡◌, refl, sym, ◌∙◌}
use Rattle.dart_ir.specs.Ty.{ty, tys, named_ty, named_tys}
use Rattle.dart_ir.specs.declared.types.TypeRef.{TypeRef}
use Rattle.dart_ir.specs.declared.types.NamedType.{NamedType}
use Rattle.type_test.specs.Test.{is_formed, are_formed, are_named_formed}
use Rattle.type_test.proofs.Walked.{passes, fails, ends}
use Rattle.type_test.proofs.formed.+forming.Goals as goal

pub are_formed-loop-t-preserved : goal.are_formed-loop-t-preserved
are_formed-loop-t-preserved t c =
    let k = c.args.classes.now in
    passes TypeRef (λ t. is_formed k (ty t)) (λ ts. are_formed k (tys ts)) (λ x xs. refl) c.args.ts.now c.loop-t.t-index c.loop-t.invariant
    c.t-item.result c.loop-t-test.true c.t-item.is (sym c.is_formed.ensures ∙ c.if-not-is_formed.false)

pub are_formed-returns-then-not-is_formed : goal.are_formed-returns-then-not-is_formed
are_formed-returns-then-not-is_formed t c =
    let k = c.args.classes.now in
    fails TypeRef (λ t. is_formed k (ty t)) (λ ts. are_formed k (tys ts)) (λ x xs. refl) c.args.ts.now c.loop-t.t-index c.loop-t.invariant
    c.t-item.result c.loop-t-test.true c.t-item.is (sym c.is_formed.ensures ∙ c.if-not-is_formed.true)

pub are_formed-returns : goal.are_formed-returns
are_formed-returns t c =
    let k = c.args.classes.now in
    ends TypeRef (λ t. is_formed k (ty t)) (λ ts. are_formed k (tys ts)) (λ x xs. refl) c.args.ts.now c.loop-t.t-index c.loop-t.invariant c.loop-t-test.false refl

pub are_named_formed-loop-one-preserved : goal.are_named_formed-loop-one-preserved
are_named_formed-loop-one-preserved t c =
    let k = c.args.classes.now in
    passes NamedType (λ n. is_formed k (named_ty n).1) (λ ns. are_named_formed k (named_tys ns)) (λ x xs. refl) c.args.named.now c.loop-one.one-index c.loop-one.invariant
    c.one-item.result c.loop-one-test.true c.one-item.is (sym c.is_named_formed.ensures ∙ c.if-not-is_named_formed.false)

pub are_named_formed-returns-then-not-is_named_formed : goal.are_named_formed-returns-then-not-is_named_formed
are_named_formed-returns-then-not-is_named_formed t c =
    let k = c.args.classes.now in
    fails NamedType (λ n. is_formed k (named_ty n).1) (λ ns. are_named_formed k (named_tys ns)) (λ x xs. refl) c.args.named.now c.loop-one.one-index c.loop-one.invariant
    c.one-item.result c.loop-one-test.true c.one-item.is (sym c.is_named_formed.ensures ∙ c.if-not-is_named_formed.true)

pub are_named_formed-returns : goal.are_named_formed-returns
are_named_formed-returns t c =
    let k = c.args.classes.now in
    ends NamedType (λ n. is_formed k (named_ty n).1) (λ ns. are_named_formed k (named_tys ns)) (λ x xs. refl) c.args.named.now c.loop-one.one-index c.loop-one.invariant c.loop-one-test.false refl
