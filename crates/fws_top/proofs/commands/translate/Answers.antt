use Rattle.std.proofs.Common.{rules}
use Rattle.std.proofs.lemmas.Result.{IfErr-weaker, IfOk-weaker}
use Rattle.fws_net.specs.declared.site.Site.{Site}
use Rattle.fws_top.specs.Answered.{Answered, Stopped}
use Rattle.fws_top.specs.Parts.{translation_part}
use Rattle.fws_top.specs.Plan.{Plan, site_plan}
use Rattle.fws_top.proofs.AnsweredCommands.{site_stops}
use Rattle.fws_top.proofs.Chosen.{answered_behind, stopped_behind}
use Rattle.fws_top.proofs.commands.translate.Goals as goal

pub returns-in_err-site-clause-stopped : goal.returns-in_err-site-clause-stopped
returns-in_err-site-clause-stopped g c =
    let next : Site → Plan = λ value. translation_part c.args.from c.args.to value c.args.file_name.now in
    let stops = site_stops c.args.site_name.now (g.S.Shelf.told c.args.shelf.now) (g.S.Shelf.faults c.args.shelf.now) (g.S.Shelf.faults c.take_site.new.shelf)
    c.in_err-site.field-0.0 next c.in_err-site.ensures.stopped in
    search (rules, stops)

pub returns-clause-answered : goal.returns-clause-answered
returns-clause-answered g c =
    let told = g.S.Shelf.told c.args.shelf.now in
    let before = g.S.Shelf.told c.take_site.new.shelf in
    let old = g.S.Shelf.faults c.args.shelf.now in
    let at = g.S.Shelf.faults c.take_site.new.shelf in
    let new = g.S.Shelf.faults c.translate_at.new.shelf in
    let next : Site → Plan = λ value. translation_part c.args.from c.args.to value c.args.file_name.now in
    IfOk-weaker c.translate_at.result (λ x. Answered (next c.in_ok-site.site) before at new x.status x.text) (λ x. Answered (site_plan c.args.site_name.now next) told old new x.status x.text)
    (λ x a. answered_behind (site_plan c.args.site_name.now) told before old at new x.status x.text next c.in_ok-site.site c.in_ok-site.ensures.goes_on c.in_ok-site.ensures.same c.in_ok-site.ensures.quiet a)
    c.translate_at.ensures.answered

pub returns-clause-stopped : goal.returns-clause-stopped
returns-clause-stopped g c =
    let told = g.S.Shelf.told c.args.shelf.now in
    let before = g.S.Shelf.told c.take_site.new.shelf in
    let old = g.S.Shelf.faults c.args.shelf.now in
    let at = g.S.Shelf.faults c.take_site.new.shelf in
    let new = g.S.Shelf.faults c.translate_at.new.shelf in
    let next : Site → Plan = λ value. translation_part c.args.from c.args.to value c.args.file_name.now in
    IfErr-weaker c.translate_at.result (Stopped (next c.in_ok-site.site) before at new) (Stopped (site_plan c.args.site_name.now next) told old new)
    (λ stop s. stopped_behind (site_plan c.args.site_name.now) told before old at new stop next c.in_ok-site.site c.in_ok-site.ensures.goes_on c.in_ok-site.ensures.same c.in_ok-site.ensures.quiet s)
    c.translate_at.ensures.stopped
