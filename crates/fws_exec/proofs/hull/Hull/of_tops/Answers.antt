use Rattle.std.proofs.Common.{◌≡◌, ℕ, length, ◌∙◌, arith}
use Rattle.std.proofs.lemmas.List.{get_or-replicate}
use Rattle.fws_exec.proofs.Bounding.{within_at}
use Rattle.fws_exec.proofs.Dividing.{within_length}
use Rattle.fws_exec.proofs.hull.Hull.of_tops.Goals as goal

pub returns : goal.returns
returns c p w =
    let long : length c.args.tops.now ≡ 12 = omega arith in
    record {
      twelve = within_length c.args.tops.now p w ∙ long;
      low = λ k lt. (let none = get_or-replicate {A = ℕ} 12 k 0 0 lt in omega (arith, none));
      high = λ k lt. within_at c.args.tops.now p k w (omega arith);
    }
