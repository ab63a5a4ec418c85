use Rattle.std.proofs.Common.{ap, sym, ◌∙◌}
use Rattle.fws_net.specs.Routes.{joined, longest, nets_from}
use Rattle.fws_net.proofs.Longest.{longest-append}
use Rattle.fws_net.proofs.routes.best_prefix.Goals as goal

pub returns : goal.returns
returns c =
    let site = c.args.site.now in
    c.best_of_lines.ensures
    ∙ ap (λ o. joined o (longest c.as_slice-2.result.now c.args.a)) (c.best_of_faces-best.ensures ∙ ap (λ faces. longest (nets_from 2 faces) c.args.a) c.as_slice.ensures)
    ∙ ap (λ routes. joined (longest (nets_from 2 site.faces) c.args.a) (longest routes c.args.a)) c.as_slice-2.ensures
    ∙ sym (longest-append (nets_from 2 site.faces) site.routes c.args.a)
