use Rattle.std.proofs.Common.{ℕ, ◌+◌, ◌-◌, ◌%◌, ◌<◌, ◌≤◌, Bool, arith}
use Rattle.std.proofs.Math.Nat.{mod-le, mod-lt}
use Rattle.fws_place.specs.Delivered.{is_kept_local, NoneIn}
use Rattle.fws_place.proofs.LocalWritten.{block_aligned, first_up_to, none_in_two}
use Rattle.fws_place.proofs.delivering.kept_local.Goals as goal

pub returns-in-Some : goal.returns-in-Some
returns-in-Some c =
    let test : ℕ → Bool = is_kept_local c.args.local.now c.args.addr c.args.size in
    let lo : ℕ = c.args.lo in
    let size : ℕ = c.args.size in
    let below : lo % size ≤ lo = mod-le lo size in
    let from : ℕ = lo - lo % size + lo % size in
    let begin : lo ≤ lo - lo % size + lo % size = omega arith in
    let before : NoneIn test lo from = λ y le lt. absurd (omega arith) in
    first_up_to test lo from (lo - lo % size + size) c.in-Some.d c.args.hi c.up_to.result begin before c.in-Some.ensures c.up_to.ensures

pub returns-in-Some-first_in_block : goal.returns-in-Some-first_in_block
returns-in-Some-first_in_block c =
    let test : ℕ → Bool = is_kept_local c.args.local.now c.args.addr c.args.size in
    let lo : ℕ = c.args.lo in
    let size : ℕ = c.args.size in
    let below : lo % size ≤ lo = mod-le lo size in
    let rest : lo % size < size = mod-lt lo c.requires.some in
    let from : ℕ = lo - lo % size + size + 0 in
    let begin : lo ≤ lo - lo % size + size + 0 = omega arith in
    let early : NoneIn test (lo - lo % size + lo % size) (lo - lo % size + size) = c.in_default.ensures in
    let before : NoneIn test lo from = λ y le lt. early y (omega arith) (omega arith) in
    first_up_to test lo from (lo - lo % size + size + size) c.in-Some-first_in_block.d c.args.hi c.up_to-in-Some-first_in_block.result begin before c.in-Some-first_in_block.ensures
    c.up_to-in-Some-first_in_block.ensures

pub returns-in-None : goal.returns-in-None
returns-in-None c =
    let test : ℕ → Bool = is_kept_local c.args.local.now c.args.addr c.args.size in
    let lo : ℕ = c.args.lo in
    let size : ℕ = c.args.size in
    let below : lo % size ≤ lo = mod-le lo size in
    let early : NoneIn test (lo - lo % size + lo % size) (lo - lo % size + size) = c.in_default.ensures in
    let before : NoneIn test lo (lo - lo % size + size) = λ y le lt. early y (omega arith) lt in
    none_in_two c.args.local.now c.args.addr size (lo - lo % size) lo c.args.hi c.requires.some (block_aligned lo size) (omega arith) before c.in-None.ensures
