use Rattle.std.proofs.Common.{List, ap, sym, ◌∙◌}
use Rattle.mm_poly.specs.declared.term.Term.{Term}
use Rattle.mm_poly.specs.Poly.{joined}
use Rattle.box_enum.specs.machine.Putting.{cofactor_terms, put_terms}
use Rattle.box_enum.proofs.CofactorLaws.{put_joined}
use Rattle.box_enum.proofs.ReplacingSteps.{reach_small, cofactor_small, cofactor_few, put_small, put_few}
use Rattle.box_enum.proofs.replacing.replace.Goals as goal

pub replaced_terms-requires-clause-reach : goal.replaced_terms-requires-clause-reach
replaced_terms-requires-clause-reach c = reach_small c.args.reach c.args.choice.now.variable c.args.poly.now c.requires.tame c.requires.occurs

pub sum-requires-clause-small : goal.sum-requires-clause-small
sum-requires-clause-small c = cofactor_small c.args.reach c.args.choice.now.variable c.args.choice.now.value c.args.poly.now c.in_ok-terms.terms.cofactor.items c.requires.tame c.requires.within
    (c.in_ok-terms.ensures.cofactor ∙ ap (λ (ts : List Term). cofactor_terms c.args.choice.now.variable c.args.choice.now.value ts) c.terms.ensures.value)

pub sum-requires-clause-few : goal.sum-requires-clause-few
sum-requires-clause-few c = cofactor_few c.args.reach c.args.choice.now.variable c.args.choice.now.value c.args.poly.now c.in_ok-terms.terms.cofactor.items c.requires.tame
    (c.in_ok-terms.ensures.cofactor ∙ ap (λ (ts : List Term). cofactor_terms c.args.choice.now.variable c.args.choice.now.value ts) c.terms.ensures.value)

pub sum-requires-2-clause-small : goal.sum-requires-2-clause-small
sum-requires-2-clause-small c = put_small c.args.reach c.args.choice.now.variable c.args.choice.now.value c.args.poly.now c.in_ok-terms.terms.left.items c.requires.tame c.requires.within
    (c.in_ok-terms.ensures.left ∙ ap (λ (ts : List Term). put_terms c.args.choice.now.variable c.args.choice.now.value ts) c.terms.ensures.value)

pub sum-requires-2-clause-few : goal.sum-requires-2-clause-few
sum-requires-2-clause-few c = put_few c.args.reach c.args.choice.now.variable c.args.choice.now.value c.args.poly.now c.in_ok-terms.terms.left.items c.requires.tame
    (c.in_ok-terms.ensures.left ∙ ap (λ (ts : List Term). put_terms c.args.choice.now.variable c.args.choice.now.value ts) c.terms.ensures.value)

pub returns-clause-left : goal.returns-clause-left
returns-clause-left c =
    c.in_ok-sum-2.ensures
    ∙ ap (λ (ts : List Term). joined ts) (c.in_ok-terms.ensures.left ∙ ap (λ (ts : List Term). put_terms c.args.choice.now.variable c.args.choice.now.value ts) c.terms.ensures.value)
    ∙ sym (put_joined c.args.choice.now.variable c.args.choice.now.value c.args.poly.now c.requires.tame.monos)
