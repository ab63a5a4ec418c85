use Rattle.std.proofs.Common.{◌≡◌, drop}
use Rattle.std.specs.List.{list_all}
use Rattle.fws_pf.specs.Drawn.{is_one_block}
use Rattle.fws_pf_words.proofs.blocks.are_all_blocks.Given as goal

abbrev pub invariant-loop-item : goal.invariant-loop-item
invariant-loop-item l =
    let test = is_one_block l.tables l.n in list_all test (drop l.item-index l.items) ≡ list_all test l.items
