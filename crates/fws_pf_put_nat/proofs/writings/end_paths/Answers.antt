use Rattle.std.proofs.Common.{◌≡◌, ◌+◌, ◌≤◌, true, List, refl, sym, subst, arith}
use Rattle.std.proofs.lemmas.Result.{IfOk-weaker}
use Rattle.fws_iv.specs.declared.iv.Iv.{Iv}
use Rattle.fws_net.specs.declared.packet.Packet.{Packet}
use Rattle.fws_pf_put_nat.specs.declared.path.Path.{Path}
use Rattle.fws_pf_put_nat.specs.Paths.{part_has}
use Rattle.fws_pf_put_nat.specs.Writings.{host_paths_of, over, written_side, AreBlockPaths, AreEndPaths}
use Rattle.fws_pf_put_nat.proofs.Written.{block_end_paths, host_end_paths, written_low, written_order, written_within}
use Rattle.fws_pf_put_nat.proofs.writings.end_paths.Goals as goal

pub block_paths-requires-clause-order : goal.block_paths-requires-clause-order
block_paths-requires-clause-order c = subst (λ (x : Iv). x.lo ≤ x.hi) (sym c.part_written-part.ensures) (written_order c.requires.0 c.args.outward c.args.path c.requires.1)

pub block_paths-requires-clause-within : goal.block_paths-requires-clause-within
block_paths-requires-clause-within c =
    let outward = c.args.outward in
    let path = c.args.path in
    subst (λ (x : Iv). (p : Packet) → x.lo ≤ over outward p → over outward p ≤ x.hi → part_has (written_side outward) path p ≡ true) (sym c.part_written-part.ensures) (written_within outward path)

pub returns-then-end-lt32 : goal.returns-then-end-lt32
returns-then-end-lt32 c = λ site printed.
    let outward = c.args.outward in
    let path = c.args.path in
    let end = c.args.end in
    let part = c.part_written-part.result in
    let P : List Path → Type 0 = λ paths. AreBlockPaths outward path end.len part.lo (part.hi + 1) paths in
    let Q : List Path → Type 0 = λ paths. AreEndPaths site outward end path paths in
    IfOk-weaker c.block_paths.result P Q
    (λ paths h. block_end_paths site outward end path paths printed c.if-end-lt32.true (written_low site outward path printed)
    (subst (λ (x : Iv). AreBlockPaths outward path end.len x.lo (x.hi + 1) paths) c.part_written-part.ensures h)) c.block_paths.ensures

pub returns : goal.returns
returns c = λ site printed.
    let outward = c.args.outward in
    let path = c.args.path in
    let end = c.args.end in
    let high = end.len_high in
    let whole : end.len ≡ 32 = omega (arith, high) in
    let P : List Path → Type 0 = λ paths. paths ≡ host_paths_of outward path end.port in
    let Q : List Path → Type 0 = λ paths. AreEndPaths site outward end path paths in
    IfOk-weaker c.host_paths.result P Q (λ paths h. host_end_paths site outward end path paths printed whole end.port refl h) c.host_paths.ensures
