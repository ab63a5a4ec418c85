use Rattle.std.proofs.Common.{◌≡◌, ℕ, Bool, Some, List, sym, ◌∙◌, subst}
use Rattle.std.proofs.lemmas.Result.{IfOk-weaker}
use Rattle.std.specs.Prelude.{if◌then◌else◌}
use Rattle.fws_box.specs.Sides.{IsWithin}
use Rattle.fws_net.specs.declared.outcome.Outcome.{Outcome}
use Rattle.fws_net.specs.declared.outcome.Outcome.TheVariants.{Drop}
use Rattle.fws_net.specs.Points.{tops_of}
use Rattle.fws_tree.specs.Plain.{Plain, value}
use Rattle.fws_place.specs.declared.one_end.Compared.TheVariants.{HostSources}
use Rattle.fws_place.specs.OneEnd.{alone}
use Rattle.fws_place.specs.Outgoing.{HasSources}
use Rattle.fws_place.proofs.Going.{sources_there}
use Rattle.fws_place.proofs.outgoing.outgoing_sources.Goals as goal

pub returns-clause-value : goal.returns-clause-value
returns-clause-value c =
    let site = c.args.site.now in
    let tables = c.args.tables.now in
    let out = c.in_ok-out.out in
    let both = c.in_ok-both.both in
    let whole : both.0 ≡ tops_of site = c.in_ok-both.ensures.tops ∙ c.requires.regular.fresh_tops in
    let P : List ℕ × Plain Outcome → Type 0
    = λ t. (q : List ℕ) → IsWithin both.0 q → (x : Outcome × Bool) × (value both.1 q ≡ Some x) × (value t.1 q ≡ Some (if x.1 then alone HostSources x.0 else Drop)) in
    let Q : List ℕ × Plain Outcome → Type 0 = λ t. HasSources site tables t.1 in
    IfOk-weaker c.relabel.result P Q
    (λ t h q w.
    sources_there site q (value tables.fresh.1 q) (value out.1 q) (value t.1 q) (value both.1 q) (c.in_ok-out.ensures.value q w)
    (c.in_ok-both.ensures.value q (subst (λ (ts : List ℕ). IsWithin ts q) (sym c.requires.regular.fresh_tops) w)) (h q (subst (λ (ts : List ℕ). IsWithin ts q) (sym whole) w)))
    c.relabel.ensures.value
