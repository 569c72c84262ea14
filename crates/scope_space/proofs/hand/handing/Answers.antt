use Rattle.std.proofs.Common.{◌≡◌, ◌∙◌, ◌<◌, ℕ, true, false, Some, length, set, slice_get, sym, ap, subst, inl, inr, length-set}
use Rattle.std.proofs.lemmas.List.{length-replicate}
use Rattle.std.proofs.lemmas.Option.{same_Some, slice_get_read}
use Rattle.scope_space.specs.Hands.{Hands, Hands.own}
use Rattle.scope_space.specs.Library.{shares}
use Rattle.scope_space.specs.Building.{takes_over}
use Rattle.scope_space.specs.declared.library.Library.{Library}
use Rattle.scope_space.proofs.Marks.{first_mark, mark_after, mark_kept, mark_set, within, fewer, justified, complete}
use Rattle.scope_space.proofs.hand.handing.Goals as goal

pub loop-at-init : goal.loop-at-init
loop-at-init c =
    let libraries = c.args.libraries.now in
    let owner = c.args.owner in
    let made = c.in_ok-marks.marks.items in
    let none = c.in_ok-marks.ensures.items_if_clones_equal (λ y e. e) in
    let long : length made ≡ length libraries = ap length none ∙ length-replicate (length libraries) false in
    let read = slice_get_read libraries (length libraries) owner c.index-libraries-owner.result (λ _. length libraries) c.requires c.index-libraries-owner.is in
    record {
      long = length-set made owner c.shares.result ∙ long;
      begins = λ library is shared.
          let same = same_Some library c.index-libraries-owner.result (sym is ∙ read) in
          mark_set made owner c.shares.result (subst (λ n. owner < n) (sym long) c.requires)
          ∙ ap Some (c.shares.ensures ∙ ap (λ library. shares library c.args.name.0) (sym same) ∙ shared);
      sound = λ at h.
          let first = first_mark (length libraries) owner c.shares.result at (subst (λ marks. slice_get (set marks owner c.shares.result) at ≡ Some true) none h) in
          subst (Hands libraries c.args.name.0 owner) (sym first.0) (own c.index-libraries-owner.result read (sym c.shares.ensures ∙ first.1));
    }

pub index_mut-requires-in-Some : goal.index_mut-requires-in-Some
index_mut-requires-in-Some c = subst (λ n. c.in-Some.at < n) c.as_slice.ensures.len (within c.as_slice.result.now c.in-Some.at false c.in-Some.ensures.found.0)

pub loop-at-smaller : goal.loop-at-smaller
loop-at-smaller c = fewer c.loop-at.marks.items c.in-Some.at (subst (λ marks. slice_get marks c.in-Some.at ≡ Some false) c.as_slice.ensures.value c.in-Some.ensures.found.0)

pub loop-at-preserved : goal.loop-at-preserved
loop-at-preserved c =
    let marks = c.loop-at.marks.items in
    let found = c.in-Some.ensures.found in
    record {
      long = length-set marks c.in-Some.at true ∙ c.loop-at.invariant.long;
      begins = λ library is shared. mark_kept marks c.in-Some.at c.args.owner (c.loop-at.invariant.begins library is shared);
      sound = λ at h. elim (mark_after marks c.in-Some.at at h) [
        | inl same ↦ subst (Hands c.args.libraries.now c.args.name.0 c.args.owner) (sym same)
            (justified c.args.libraries.now c.args.name.0 c.args.owner marks c.loop-at.invariant.sound c.in-Some.at found.1 found.2
            (subst (λ marks. takes_over marks c.args.name.0 found.1 ≡ true) c.as_slice.ensures.value found.3))
        | inr old ↦ c.loop-at.invariant.sound at old
      ];
    }

pub returns-clause-hands : goal.returns-clause-hands
returns-clause-hands c at = (
  c.loop-at.invariant.sound at,
  complete c.args.libraries.now c.args.name.0 c.args.owner c.loop-at.marks.items c.loop-at.invariant.begins
      (subst (λ marks. (at : ℕ) (library : Library) → slice_get c.args.libraries.now at ≡ Some library → takes_over marks c.args.name.0 library ≡ true → slice_get marks at ≡ Some true)
      c.as_slice.ensures.value c.in_default.ensures.closed) at,
)
