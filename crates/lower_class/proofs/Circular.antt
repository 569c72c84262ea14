-- Redirections that are followed one after another.
use Rattle.std.proofs.Common.{◌≡◌, ◌∙◌, ℕ, suc, List, Bool, true, false, Option, None, Some, MatchOption, sym, ap, cond}
use Rattle.std.specs.Option.{option_map}
use Rattle.std.specs.Str.{bytes_eq}
use Rattle.dart_tree.specs.Unit as u
use Rattle.translation.specs.Classes as cl
use Rattle.translation.specs.Surroundings.{Text}

-- what a call found, as it is seen
pub found_seen : {R : Type 0} (view : R → Text) (found : Option R) (want : Option Text) → MatchOption found (want ≡ None) (λ x. want ≡ Some (view x)) → option_map view found ≡ want
found_seen view None want h = sym h
found_seen view (Some x) want h = sym h

-- another constructor is reached
pub leads_on : (n m : ℕ) (ms : List u.Member) (id at : Text) (next : Option Text) (whole : Bool) → n ≡ suc m → bytes_eq at id ≡ false → next ≡ cl.target_in ms at →
    cl.leads_to n ms id (Some at) ≡ whole → cl.leads_to m ms id next ≡ whole
leads_on n m ms id at next whole more other is h =
    ap (λ (o : Option Text). cl.leads_to m ms id o) is
    ∙ sym (ap (λ (b : Bool). cond b true (cl.leads_to m ms id (cl.target_in ms at))) other) ∙ ap (λ (n : ℕ). cl.leads_to n ms id (Some at)) (sym more) ∙ h
