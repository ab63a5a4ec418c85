use Rattle.std.proofs.Common.{◌≡◌, ◌<◌, min, inl, inr, sym, ◌∙◌, subst, arith}
use Rattle.fws_dead.specs.Laid.{laid_over, next_block}
use Rattle.fws_dead.proofs.Laying.{far, next_behind}
use Rattle.fws_dead.proofs.written.apart_between.Goals as goal

pub returns-then-next-from : goal.returns-then-next-from
returns-then-next-from c x le up =
    let a = c.args.a in
    let b = c.args.b in
    let first = c.from-first.ensures in
    let left = c.laid_over.ensures in
    let right = c.laid_over-2.ensures in
    let same = c.if-laid_over.false in
    let here : laid_over a c.args.lo ≡ laid_over b c.args.lo = subst (λ n. laid_over a n ≡ laid_over b n) first (sym left ∙ same ∙ right) in
    let least : c.min.result ≡ min a.kept b.kept = c.min.ensures in
    let next = c.next_block-next.ensures in
    let end = c.from.ensures in
    let test = c.if-next-from.true in
    let short : c.args.hi < next_block c.args.lo c.min.result = omega (arith, next, end, test) in
    far a.value a.kept b.value b.kept c.args.lo c.args.hi x le up here (inl (subst (λ n. c.args.hi < next_block c.args.lo n) least short))

pub returns-then-laid_over-2 : goal.returns-then-laid_over-2
returns-then-laid_over-2 c =
    let next = c.next_block-next.ensures in
    let end = c.from.ensures in
    let test = c.if-next-from.false in
    let left = c.laid_over-3.ensures in
    let right = c.laid_over-4.ensures in
    let behind = next_behind c.args.lo c.min.result in
    (omega (arith, next, behind), omega (arith, end, test), λ same. c.if-laid_over-2.true (left ∙ same ∙ sym right))

pub returns : goal.returns
returns c x le up =
    let a = c.args.a in
    let b = c.args.b in
    let first = c.from-first.ensures in
    let left = c.laid_over.ensures in
    let right = c.laid_over-2.ensures in
    let same = c.if-laid_over.false in
    let here : laid_over a c.args.lo ≡ laid_over b c.args.lo = subst (λ n. laid_over a n ≡ laid_over b n) first (sym left ∙ same ∙ right) in
    let least : c.min.result ≡ min a.kept b.kept = c.min.ensures in
    let next = c.next_block-next.ensures in
    let behind-left = c.laid_over-3.ensures in
    let behind-right = c.laid_over-4.ensures in
    let behind-same = c.if-laid_over-2.false in
    let there : laid_over a (next_block c.args.lo c.min.result) ≡ laid_over b (next_block c.args.lo c.min.result)
    = subst (λ n. laid_over a n ≡ laid_over b n) next (sym behind-left ∙ behind-same ∙ behind-right) in
    far a.value a.kept b.value b.kept c.args.lo c.args.hi x le up here
    (inr (subst (λ n. laid_over a (next_block c.args.lo n) ≡ laid_over b (next_block c.args.lo n)) least there))
