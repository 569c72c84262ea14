use Rattle.std.proofs.Common.{◌≡◌, ◌∙◌, ◌+◌, ◌<◌, ℕ, List, length, sym, refl, true, false, cond, drop, get_or, Some, add-one}
use Rattle.std.specs.Prelude.{find}
use Rattle.std.proofs.Math.Seq.{drop-cons}
use Rattle.dart_ir.specs.declared.native.NativeId.{NativeId}
use Rattle.dart_ir.specs.declared.native.NativeId.TheVariants as n
use Rattle.native_name.specs.Name.{is_named}
use Rattle.native_name.proofs.name.first_named.Goals as goal

first_step : (natives : List NativeId) (class member : List ℕ) (i : ℕ) → i < length natives
    → find (is_named class member) (drop i natives)
    ≡ cond (is_named class member (get_or natives i n.Identical)) (Some (get_or natives i n.Identical)) (find (is_named class member) (drop (i + 1) natives))
first_step natives class member i lt = rw (add-one, drop-cons natives i n.Identical) refl

pub returns-then-is_named : goal.returns-then-is_named
returns-then-is_named c =
    let same : is_named c.args.class.now c.args.member.now (get_or c.args.natives.now c.loop-native.native-index n.Identical) ≡ true = sym c.is_named.ensures ∙ c.if-is_named.true in
    sym (c.loop-native.invariant ∙ first_step c.args.natives.now c.args.class.now c.args.member.now c.loop-native.native-index c.loop-native-test.true ∙ rw same refl)

pub loop-native-preserved : goal.loop-native-preserved
loop-native-preserved c =
    let other : is_named c.args.class.now c.args.member.now (get_or c.args.natives.now c.loop-native.native-index n.Identical) ≡ false = sym c.is_named.ensures ∙ c.if-is_named.false in
    c.loop-native.invariant ∙ first_step c.args.natives.now c.args.class.now c.args.member.now c.loop-native.native-index c.loop-native-test.true ∙ rw other refl
