use Rattle.std.proofs.Common.{◌≡◌, ◌∙◌, ◌+◌, ◌++◌, List, ℕ, true, false, get_or, drop, map, arith, sym, ap, append_assoc}
use Rattle.std.specs.Prelude.{option_to_list}
use Rattle.std.specs.List.{enumerate_from}
use Rattle.std.proofs.lemmas.List.{get_or_default}
use Rattle.scope_declared.specs.declared.declaration.Declared.{Declared}
use Rattle.scope_class.specs.Constructors.{is_constructor}
use Rattle.scope_class.specs.declared.constructor.Making.{Making}
use Rattle.scope_class.specs.declared.constructor.Making.TheVariants.{Generative}
use Rattle.scope_class.proofs.Nothing.{nothing}
use Rattle.lower_added.specs.Added as added
use Rattle.lower_added.specs.Written.{generative, generatives, generative_by, all_generative}
use Rattle.lower_added.proofs.Constructing.{generatives-made, generatives-past, generatives-other}
use Rattle.lower_added.proofs.written.generatives.Goals as goal
use Rattle.lower_added.proofs.written.generatives.Goals.{then-is_constructor, then-place-ways+in_ok-add_generative, else-place-ways, else-is_constructor}

pub loop-one-preserved : goal.loop-one-preserved
loop-one-preserved c =
    let i = c.loop-one.one-index in
    let inside = c.args.inside.now in
    let ways = c.args.ways.now in
    let place = c.loop-one.place in
    let number = c.loop-one.number in
    let one : Declared = get_or inside i nothing in
    let below = c.loop-one-test.true in
    let I = c.loop-one.invariant in
    let made = c.loop-one.made.items in
    let new = c.if-is_constructor.made.items in
    let rest : (List (List ℕ)) → ℕ → List added.Generative = λ texts next. generatives texts (enumerate_from (number + 1) (drop (i + 1) inside)) (drop next ways) in
    elim c.if-is_constructor.branch [
      | then-is_constructor w ↦
          let is : is_constructor one.kind ≡ true = sym c.is_constructor.ensures ∙ w.if-is_constructor.true in
          record {
            count = omega (arith, I.count);
            within = omega (arith, I.within, w.place-is);
            known = λ texts.
                ap (λ n. map (generative texts) new ++ rest texts n) w.place-is
                ∙ elim w.if-place-ways.branch [
                  | then-place-ways+in_ok-add_generative v ↦
                      let way : Making = get_or ways place Generative in
                      let put : map (generative texts) new ≡ map (generative texts) made ++ option_to_list (generative_by way texts number one) =
                      ap (all_generative texts) (w.made-is ∙ v.made-is) ∙ v.in_ok-add_generative.ensures texts in
                      ap (λ (l : List added.Generative). l ++ rest texts (place + 1)) put
                      ∙ append_assoc (map (generative texts) made) (option_to_list (generative_by way texts number one)) (rest texts (place + 1))
                      ∙ ap (λ (l : List added.Generative). map (generative texts) made ++ l)
                      (sym (generatives-made texts number i place inside ways below is v.if-place-ways.true way (get_or_default ways place Generative way v.if-place-ways.true)))
                      ∙ I.known texts
                  | else-place-ways v ↦
                      ap (λ (l : List added.Generative). l ++ rest texts (place + 1)) (ap (all_generative texts) (w.made-is ∙ v.made-is))
                      ∙ ap (λ (l : List added.Generative). map (generative texts) made ++ l) (sym (generatives-past texts number i place inside ways below is v.if-place-ways.false))
                      ∙ I.known texts
                ];
          }
      | else-is_constructor w ↦
          let is : is_constructor one.kind ≡ false = sym c.is_constructor.ensures ∙ w.if-is_constructor.false in
          record {
            count = omega (arith, I.count);
            within = omega (arith, I.within, w.place-is);
            known = λ texts.
                ap (λ n. map (generative texts) new ++ rest texts n) w.place-is
                ∙ ap (λ (l : List added.Generative). l ++ rest texts place) (ap (all_generative texts) w.made-is)
                ∙ ap (λ (l : List added.Generative). map (generative texts) made ++ l) (sym (generatives-other texts number i place inside ways below is))
                ∙ I.known texts;
          }
    ]
