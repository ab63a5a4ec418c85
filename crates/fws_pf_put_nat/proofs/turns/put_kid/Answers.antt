use Rattle.std.proofs.Common.{◌++◌, ◌∙◌, ap}
use Rattle.fws_pf_put_nat.specs.Turns.{passes_root, turns_to}
use Rattle.fws_pf_put_nat.proofs.Turning.{kid_tests}
use Rattle.fws_pf_put_nat.proofs.turns.put_kid.Goals as goal
use Rattle.fws_pf_put_nat.specs.Sheets.{scene_of}

pub returns : goal.returns
returns c =
    let sheet = c.args.sheet.now in
    let kid = c.args.kid.now in
    let paths = c.in_ok-paths.paths in (
      turns_to kid.node (passes_root c.args.last) paths,
      c.in_ok-put_paths.ensures ∙ ap (λ b. c.args.turns.now ++ turns_to kid.node b paths) c.passes.ensures,
      kid_tests (scene_of sheet) c.args.side kid c.args.path c.args.last paths c.in_ok-paths.ensures,
    )
