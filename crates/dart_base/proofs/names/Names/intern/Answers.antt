use Rattle.std.proofs.Common.{◌≡◌, ◌∙◌, sym, ap, ap₂, map, subst, Some, slice_get, string_bytes}
use Rattle.dart_base.specs.Names.{AreDistinct, interned}
use Rattle.dart_base.proofs.Texts.{text_at, any_texts, distinct_texts, texts_after, text_kept, interned-known}
use Rattle.dart_base.proofs.names.Names.intern.Goals as goal

pub returns-in-Some-clause-named : goal.returns-in-Some-clause-named
returns-in-Some-clause-named c =
    subst (λ texts. slice_get texts c.in-Some.index ≡ Some c.args.text.now) c.self.view_is
    (text_at c.args.text.now c.self.inside.texts.keys c.in-Some.index c.in-Some.field-0-1.now c.in-Some.ensures.stored c.in-Some.ensures.key)

pub returns-in-Some-clause-texts : goal.returns-in-Some-clause-texts
returns-in-Some-clause-texts c =
    subst (λ texts. texts ≡ interned texts c.args.text.now) c.self.view_is
    (interned-known _ c.args.text.now (any_texts c.args.text.now c.self.inside.texts.keys ∙ sym c.in-Some.ensures.found))

pub returns-in-Some-clause-distinct : goal.returns-in-Some-clause-distinct
returns-in-Some-clause-distinct c = subst AreDistinct c.self.view_is (distinct_texts c.self.inside.texts.keys c.self.invariant.0)

pub returns-in_err-owned-clause-distinct : goal.returns-in_err-owned-clause-distinct
returns-in_err-owned-clause-distinct c = subst AreDistinct c.self.view_is (distinct_texts c.self.inside.texts.keys c.self.invariant.0)

pub returns-in_err-index-clause-distinct : goal.returns-in_err-index-clause-distinct
returns-in_err-index-clause-distinct c = distinct_texts c.insert_full.new.self.keys c.insert_full.ensures.unique

pub returns-clause-named : goal.returns-clause-named
returns-clause-named c =
    let s = c.in_ok-index.ensures.stored in
    text_kept c.args.text.now c.insert_full.new.self.keys c.in_ok-index.index c.in_ok-owned.owned s.0 c.in_ok-owned.ensures.ok s.1 s.2

pub returns-clause-texts : goal.returns-clause-texts
returns-clause-texts c =
    ap (map string_bytes) c.in_ok-index.ensures.keys ∙ texts_after c.self.inside.texts.keys c.in_ok-owned.owned
    ∙ ap₂ interned c.self.view_is c.in_ok-owned.ensures.ok

pub returns-clause-distinct : goal.returns-clause-distinct
returns-clause-distinct c = distinct_texts c.insert_full.new.self.keys c.insert_full.ensures.unique
