use Rattle.std.proofs.Common.{◌≡◌, List, [], length, sym, ◌∙◌, arith}
use Rattle.std.proofs.lemmas.List.{get_or_default}
use Rattle.std.proofs.lemmas.Result.{IfOk-weaker}
use Rattle.fws_net.specs.Points.{tops_of}
use Rattle.fws_ios_put_entries.specs.declared.path.Path.{Path}
use Rattle.fws_ios_put_cover.specs.Boxes.{part}
use Rattle.fws_ios_put_cover.specs.Classes.{is_tcp}
use Rattle.fws_ios_put_cover.specs.Inside.{AreClassPaths, IsWider}
use Rattle.fws_ios_put_cover.specs.Steps.{AreBoxPaths}
use Rattle.fws_ios_put_cover.proofs.Covered.{class_done, none_of_class, part_wider}
use Rattle.fws_ios_put_cover.proofs.parts.class_paths.Goals as goal

pub returns-then-is_empty : goal.returns-then-is_empty
returns-then-is_empty c =
    let new = c.in_ok-part.part in
    let set = c.index-part.result in
    let twelve : length new ≡ 12 = c.in_ok-part.ensures.before.twelve in
    let empty : part new 1 ≡ [] = sym (get_or_default new 1 set [] (omega (arith, twelve))) ∙ c.is_empty.ensures.0 c.if-is_empty.true in
    none_of_class c.args.site.now c.tops-tops.result c.args.class c.args.within.now.1 c.args.sides.now new c.new.result c.tops-tops.ensures c.requires.filled c.in_ok-part.ensures empty c.new.ensures

pub paths_for-requires : goal.paths_for-requires
paths_for-requires c =
    let site = c.args.site.now in
    let tops = c.tops-tops.result in
    let w : IsWider (is_tcp c.args.class) (tops_of site) c.args.within.now.1 c.in_ok-part.part c.in_ok-wide.wide =
    part_wider site tops c.args.class c.is_tcp.result c.args.within.now.1 c.args.sides.now c.in_ok-part.part c.in_ok-wide.wide c.tops-tops.ensures c.is_tcp.ensures c.requires.filled c.requires.looks
    c.in_ok-part.ensures c.in_ok-wide.ensures in record { low = w.good.asked.low }

pub returns : goal.returns
returns c =
    let site = c.args.site.now in
    let class = c.args.class in
    let within = c.args.within.now.1 in
    let sides = c.args.sides.now in
    let tops = c.tops-tops.result in
    let w : IsWider (is_tcp class) (tops_of site) within c.in_ok-part.part c.in_ok-wide.wide =
    part_wider site tops class c.is_tcp.result within sides c.in_ok-part.part c.in_ok-wide.wide c.tops-tops.ensures c.is_tcp.ensures c.requires.filled c.requires.looks c.in_ok-part.ensures
    c.in_ok-wide.ensures in
    let P : List Path → Type 0 = λ paths. AreBoxPaths c.in_ok-wide.wide paths in
    let Q : List Path → Type 0 = λ paths. AreClassPaths site class within sides paths in
    IfOk-weaker c.paths_for.result P Q
    (λ paths box. class_done site tops class within sides c.in_ok-part.part c.in_ok-wide.wide paths c.tops-tops.ensures c.requires.filled c.in_ok-part.ensures w box) c.paths_for.ensures
