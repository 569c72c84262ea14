-- Constructors one after another.
use Rattle.std.proofs.Common.{◌≡◌, ◌∙◌, List, [], ◌∷◌, ◌++◌, map, length, refl, sym, ap, append_assoc, append-nil, arith}
use Rattle.std.proofs.lemmas.List.{map-append}
use Rattle.translation.specs.ClassBodies as b
use Rattle.translation.specs.Classes as cl
use Rattle.translation.specs.Surroundings.{Core}
use Rattle.translation.specs.Walk.{State}
use Rattle.lower_leaf.specs.Around.{Around}
use Rattle.lower_class.specs.Views.{draft}
use Rattle.lower_class.specs.declared.construct.Draft.{Draft}
use Rattle.lower_body.specs.Views.{generated}
use Rattle.lower_body.specs.declared.finish.Generated.{Generated}

-- what is added, behind one constructor
pub added_step : (a : Around) (values : List Core) (items rest : List Draft) (x : Draft) (st st2 whole : State) → items ≡ x ∷ rest →
    st2 ≡ b.with_drafts values (draft a x ∷ []) st → b.with_drafts values (map (draft a) items) st ≡ whole → b.with_drafts values (map (draft a) rest) st2 ≡ whole
added_step a values items rest x st st2 whole steps added done =
    ap (λ (z : State). b.with_drafts values (map (draft a) rest) z) added
    ∙ sym (ap (λ (l : List Draft). b.with_drafts values (map (draft a) l) st) steps) ∙ done

-- what is answered, behind one constructor
pub made_step : (a : Around) (items rest : List Draft) (x : Draft) (found found2 : List Generated) (one : Generated) (whole : List cl.Generated) → items ≡ x ∷ rest →
    found2 ≡ found ++ one ∷ [] → generated a one ≡ b.generated (draft a x) →
    map (generated a) found ++ map b.generated (map (draft a) items) ≡ whole → map (generated a) found2 ++ map b.generated (map (draft a) rest) ≡ whole
made_step a items rest x found found2 one whole steps pushed made done =
    ap (λ (l : List Generated). map (generated a) l ++ map b.generated (map (draft a) rest)) pushed
    ∙ ap (λ (l : List cl.Generated). l ++ map b.generated (map (draft a) rest)) (map-append (generated a) found (one ∷ []))
    ∙ append_assoc (map (generated a) found) (generated a one ∷ []) (map b.generated (map (draft a) rest))
    ∙ ap (λ (z : cl.Generated). map (generated a) found ++ z ∷ map b.generated (map (draft a) rest)) made
    ∙ sym (ap (λ (l : List Draft). map (generated a) found ++ map b.generated (map (draft a) l)) steps) ∙ done

pub nothing_left : {X : Type 0} (l : List X) → length l ≡ 0 → l ≡ []
nothing_left [] none = refl
nothing_left (x ∷ xs) none = absurd (omega arith)

-- behind the last
pub added_end : (a : Around) (values : List Core) (items : List Draft) (st whole : State) → items ≡ [] →
    b.with_drafts values (map (draft a) items) st ≡ whole → st ≡ whole
added_end a values items st whole none done = sym (ap (λ (l : List Draft). b.with_drafts values (map (draft a) l) st) none) ∙ done

pub made_end : (a : Around) (items : List Draft) (found : List Generated) (whole : List cl.Generated) → items ≡ [] →
    map (generated a) found ++ map b.generated (map (draft a) items) ≡ whole → map (generated a) found ≡ whole
made_end a items found whole none done =
    sym (append-nil (map (generated a) found))
    ∙ sym (ap (λ (l : List Draft). map (generated a) found ++ map b.generated (map (draft a) l)) none) ∙ done
