use Rattle.std.proofs.Common.{◌≡◌, Ok, subst, sym}
use Rattle.fws_top.proofs.loading.print_and_read.Goals as goal

pub read_again-requires-clause-spelled : goal.read_again-requires-clause-spelled
read_again-requires-clause-spelled g c =
    (c.args.config.now, subst (λ text. g.L.Source.spelled c.args.site.now text ≡ Ok c.args.config.now) (sym c.as_slice.ensures) c.in_ok-text.ensures)
