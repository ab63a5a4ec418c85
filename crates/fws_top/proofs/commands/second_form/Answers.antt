use Rattle.std.proofs.Common.{rules}
use Rattle.fws_net.specs.SiteSpelling.{site2_text}
use Rattle.fws_top.specs.declared.status.Status.TheVariants as status
use Rattle.fws_top.specs.Plan.{says}
use Rattle.fws_top.proofs.AnsweredCommands.{second_form_said, site_stops}
use Rattle.fws_top.proofs.commands.second_form.Goals as goal

pub returns-in_err-site-clause-stopped : goal.returns-in_err-site-clause-stopped
returns-in_err-site-clause-stopped g c =
    let stops = site_stops c.args.site_name.now (g.S.Shelf.told c.args.shelf.now) (g.S.Shelf.faults c.args.shelf.now) (g.S.Shelf.faults c.take_site.new.shelf)
    c.in_err-site.field-0.0 (λ value. says status.Ok (site2_text value)) c.in_err-site.ensures.stopped in
    search (rules, stops)

pub returns-clause-answered : goal.returns-clause-answered
returns-clause-answered g c =
    second_form_said c.args.site_name.now c.in_ok-site.site (g.S.Shelf.told c.args.shelf.now) (g.S.Shelf.faults c.args.shelf.now) (g.S.Shelf.faults c.take_site.new.shelf) c.in_ok-put_site.field-0
    c.in_ok-site.ensures.goes_on c.in_ok-site.ensures.quiet c.in_ok-put_site.ensures.spelled
