use Rattle.std.proofs.Common.{subst}
use Rattle.std.proofs.lemmas.Result.{IfOk-weaker}
use Rattle.fws_net.specs.declared.packet.State.TheVariants.{Fresh, Est}
use Rattle.fws_trace.specs.Outcomes.{outcome_by}
use Rattle.fws_dead.specs.declared.compare.Compare.{Compare}
use Rattle.fws_dead.specs.Compared.{IsComparison}
use Rattle.fws_dead.specs.Searched.{IsComparedIn}
use Rattle.fws_dead.proofs.Comparisons.{by_tables, by_walk, told_new, told_established}
use Rattle.fws_dead.proofs.comparing.same.Goals as goal

pub compared-requires-clause-first : goal.compared-requires-clause-first
compared-requires-clause-first c = c.requires.a.fresh_tops

pub compared-requires-clause-second : goal.compared-requires-clause-second
compared-requires-clause-second c = c.requires.b.fresh_tops

pub compared-requires-in-Same-clause-first : goal.compared-requires-in-Same-clause-first
compared-requires-in-Same-clause-first c = c.requires.a.est_tops

pub compared-requires-in-Same-clause-second : goal.compared-requires-in-Same-clause-second
compared-requires-in-Same-clause-second c = c.requires.b.est_tops

pub returns-in-Same-clause-tables : goal.returns-in-Same-clause-tables
returns-in-Same-clause-tables c =
    let site = c.args.site.now in
    let a = c.args.a.now in
    let b = c.args.b.now in
    let P : Compare → Type 0 = λ (k : Compare). IsComparedIn site Est a.est.1 b.est.1 k in
    let Q : Compare → Type 0 = λ (k : Compare). IsComparison site (outcome_by a) (outcome_by b) k in
    let new = subst (λ (k : Compare). IsComparedIn site Fresh a.fresh.1 b.fresh.1 k) c.in-Same.is c.in_ok-new.ensures in
    IfOk-weaker c.compared-in-Same.result P Q (λ k h. told_established site a b (outcome_by a) (outcome_by b) k (by_tables site a) (by_tables site b) new h) c.compared-in-Same.ensures

pub returns-in-Same-clause-walked : goal.returns-in-Same-clause-walked
returns-in-Same-clause-walked c walk other wf we of oe =
    let site = c.args.site.now in
    let a = c.args.a.now in
    let b = c.args.b.now in
    let P : Compare → Type 0 = λ (k : Compare). IsComparedIn site Est a.est.1 b.est.1 k in
    let Q : Compare → Type 0 = λ (k : Compare). IsComparison site walk other k in
    let new = subst (λ (k : Compare). IsComparedIn site Fresh a.fresh.1 b.fresh.1 k) c.in-Same.is c.in_ok-new.ensures in
    IfOk-weaker c.compared-in-Same.result P Q (λ k h. told_established site a b walk other k (by_walk site a walk wf we) (by_walk site b other of oe) new h) c.compared-in-Same.ensures

pub returns-in-Differ-clause-tables : goal.returns-in-Differ-clause-tables
returns-in-Differ-clause-tables c =
    let site = c.args.site.now in
    let a = c.args.a.now in
    let b = c.args.b.now in
    told_new site a b (outcome_by a) (outcome_by b) c.in-Differ.at c.in-Differ.first c.in-Differ.second (by_tables site a) (by_tables site b)
    (subst (λ (k : Compare). IsComparedIn site Fresh a.fresh.1 b.fresh.1 k) c.in-Differ.is c.in_ok-new.ensures)

pub returns-in-Differ-clause-walked : goal.returns-in-Differ-clause-walked
returns-in-Differ-clause-walked c walk other wf we of oe =
    let site = c.args.site.now in
    let a = c.args.a.now in
    let b = c.args.b.now in
    told_new site a b walk other c.in-Differ.at c.in-Differ.first c.in-Differ.second (by_walk site a walk wf we) (by_walk site b other of oe)
    (subst (λ (k : Compare). IsComparedIn site Fresh a.fresh.1 b.fresh.1 k) c.in-Differ.is c.in_ok-new.ensures)
