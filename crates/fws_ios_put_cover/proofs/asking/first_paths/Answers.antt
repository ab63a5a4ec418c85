use Rattle.std.proofs.Common.{◌≡◌, ◌++◌, ◌∷◌, [], List, false, ◌∙◌, ap}
use Rattle.fws_ios_put_entries.specs.declared.path.Path.{Path}
use Rattle.fws_ios_put_entries.specs.declared.side.Side.TheVariants.{Proto, Dst}
use Rattle.fws_ios_put_entries.specs.Paths.{nothing_asked}
use Rattle.fws_ios_put_cover.specs.Boxes.{part}
use Rattle.fws_ios_put_cover.proofs.Chaining.{first_done, not_asked, whole_open}
use Rattle.fws_ios_put_cover.proofs.asking.first_paths.Goals as goal

pub stepped-requires-2-clause-unasked : goal.stepped-requires-2-clause-unasked
stepped-requires-2-clause-unasked c =
    let sides = c.args.sides.now in
    let first = c.put.new.self in
    let is : first ≡ nothing_asked ∷ [] = c.in_ok-put.ensures.ok ∙ ap (λ (l : List Path). l ++ c.whole_path.result ∷ []) c.new-paths.ensures ∙ ap (λ (x : Path). x ∷ []) c.whole_path.ensures in
    c.in_ok-paths.ensures.stepped false (whole_open false first is) (not_asked Proto (part sides 1))

pub stepped-requires-3-clause-unasked : goal.stepped-requires-3-clause-unasked
stepped-requires-3-clause-unasked c =
    let sides = c.args.sides.now in
    let first = c.put.new.self in
    let is : first ≡ nothing_asked ∷ [] = c.in_ok-put.ensures.ok ∙ ap (λ (l : List Path). l ++ c.whole_path.result ∷ []) c.new-paths.ensures ∙ ap (λ (x : Path). x ∷ []) c.whole_path.ensures in
    c.in_ok-paths-2.ensures.stepped false (c.in_ok-paths.ensures.stepped false (whole_open false first is) (not_asked Proto (part sides 1))) (not_asked Dst (part sides 2))

pub returns : goal.returns
returns c =
    let first = c.put.new.self in
    let is : first ≡ nothing_asked ∷ [] = c.in_ok-put.ensures.ok ∙ ap (λ (l : List Path). l ++ c.whole_path.result ∷ []) c.new-paths.ensures ∙ ap (λ (x : Path). x ∷ []) c.whole_path.ensures in
    first_done c.args.sides.now first c.in_ok-paths.paths c.in_ok-paths-2.paths c.in_ok-paths-3.paths is c.in_ok-paths.ensures c.in_ok-paths-2.ensures c.in_ok-paths-3.ensures
