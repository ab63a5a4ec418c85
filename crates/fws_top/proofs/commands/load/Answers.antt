use Rattle.std.proofs.Common.{rules}
use Rattle.std.proofs.lemmas.Result.{IfErr-weaker, IfOk-weaker}
use Rattle.fws_net.specs.declared.site.Site.{Site}
use Rattle.fws_top.specs.Answered.{Answered, Stopped}
use Rattle.fws_top.specs.declared.status.Status.TheVariants as status
use Rattle.fws_top.specs.Parts.{load_part}
use Rattle.fws_top.specs.Plan.{Plan, load_site_plan}
use Rattle.fws_top.proofs.AnsweredCommands.{load_site_stops}
use Rattle.fws_top.proofs.Chosen.{answered_where, stopped_where}
use Rattle.fws_top.proofs.commands.load.Goals as goal

pub returns-in_err-site-clause-stopped : goal.returns-in_err-site-clause-stopped
returns-in_err-site-clause-stopped c = λ told faults.
    let next : Site → Plan = λ value. load_part c.args.n value in
    let stops = load_site_stops told faults c.in_err-site.field-0.0 next c.in_err-site.ensures.refused in
    search (rules, stops)

pub returns-clause-answered : goal.returns-clause-answered
returns-clause-answered c = λ told faults.
    let next : Site → Plan = λ value. load_part c.args.n value in
    IfOk-weaker c.load_at.result (Answered (next c.in_ok-site.site) told faults faults status.Ok) (Answered (load_site_plan next) told faults faults status.Ok)
    (λ t a. answered_where load_site_plan told faults status.Ok t next c.in_ok-site.site c.in_ok-site.ensures.chooses a) (c.load_at.ensures.answered told faults)

pub returns-clause-stopped : goal.returns-clause-stopped
returns-clause-stopped c = λ told faults.
    let next : Site → Plan = λ value. load_part c.args.n value in
    IfErr-weaker c.load_at.result (Stopped (next c.in_ok-site.site) told faults faults) (Stopped (load_site_plan next) told faults faults)
    (λ stop s. stopped_where load_site_plan told faults stop next c.in_ok-site.site c.in_ok-site.ensures.chooses s) (c.load_at.ensures.stopped told faults)
