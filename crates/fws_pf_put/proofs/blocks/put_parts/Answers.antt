use Rattle.std.proofs.Common.{◌≡◌, ℕ, ◌+◌, ◌-◌, ◌*◌, ◌^◌, [], ◌∷◌, ◌++◌, arith, ap, ◌∙◌, subst, append_assoc}
use Rattle.fws_num.specs.declared.prefix.Prefix.{Prefix}
use Rattle.fws_pf_put.proofs.Parts.{AreParts, SoFar, all_have, one_more, part_low}
use Rattle.fws_pf_put.proofs.blocks.put_parts.Goals as goal

pub overflow_cast-addr : goal.overflow_cast-addr
overflow_cast-addr c =
    let are : AreParts c.args.block c.args.len c.pow-size.result c.pow-k-end.result = record {
      sound = c.requires.block;
      longer = omega (arith, c.if-len-block.false);
      low = c.requires.len;
      size_is = c.pow-size.ensures ∙ ap (λ n. 2 ^ (32 - n)) c.from.ensures;
      count_is = c.pow-k-end.ensures ∙ ap (λ n. 2 ^ n) c.from-2.ensures;
    } in
    let low = part_low c.args.block c.args.len c.pow-size.result c.pow-k-end.result are c.loop-k.k c.loop-k-test.true in
    omega (arith, low, c.from-in-loop-k.ensures)

pub loop-k-preserved : goal.loop-k-preserved
loop-k-preserved c =
    let are : AreParts c.args.block c.args.len c.pow-size.result c.pow-k-end.result = record {
      sound = c.requires.block;
      longer = omega (arith, c.if-len-block.false);
      low = c.requires.len;
      size_is = c.pow-size.ensures ∙ ap (λ n. 2 ^ (32 - n)) c.from.ensures;
      count_is = c.pow-k-end.ensures ∙ ap (λ n. 2 ^ n) c.from-2.ensures;
    } in
    let inv = c.loop-k.invariant in
    let so : SoFar c.args.block c.args.len c.pow-size.result c.pow-k-end.result are inv.0 c.loop-k.k = record { are_parts = inv.2; have = inv.3 } in
    let more = one_more c.args.block c.args.len c.pow-size.result c.pow-k-end.result are inv.0 c.loop-k.k c.loop-k-test.true so in
    let part : ℕ → Prefix = λ (a : ℕ). record { addr = a; len = c.args.len } in (
      inv.0 ++ part (c.args.block.addr + c.loop-k.k * c.pow-size.result) ∷ [],
      c.in_ok-put-2.ensures.ok ∙ ap (λ a. c.loop-k.blocks ++ part (a + c.loop-k.k * c.pow-size.result) ∷ []) c.from-in-loop-k.ensures
          ∙ ap (λ l. l ++ part (c.args.block.addr + c.loop-k.k * c.pow-size.result) ∷ []) inv.1 ∙ append_assoc c.args.blocks.now inv.0 (part (c.args.block.addr + c.loop-k.k * c.pow-size.result) ∷ []),
      more.are_parts,
      more.have,
    )

pub returns : goal.returns
returns c =
    let are : AreParts c.args.block c.args.len c.pow-size.result c.pow-k-end.result = record {
      sound = c.requires.block;
      longer = omega (arith, c.if-len-block.false);
      low = c.requires.len;
      size_is = c.pow-size.ensures ∙ ap (λ n. 2 ^ (32 - n)) c.from.ensures;
      count_is = c.pow-k-end.ensures ∙ ap (λ n. 2 ^ n) c.from-2.ensures;
    } in
    let inv = c.loop-k.invariant in
    let ended : c.loop-k.k ≡ c.pow-k-end.result = omega (arith, c.loop-k-test.false, c.loop-k.auto.k-end) in
    let so : SoFar c.args.block c.args.len c.pow-size.result c.pow-k-end.result are inv.0 c.loop-k.k = record { are_parts = inv.2; have = inv.3 } in (
      inv.0,
      inv.1,
      inv.2,
      all_have c.args.block c.args.len c.pow-size.result c.pow-k-end.result are inv.0
          (subst (SoFar c.args.block c.args.len c.pow-size.result c.pow-k-end.result are inv.0) ended so),
    )
