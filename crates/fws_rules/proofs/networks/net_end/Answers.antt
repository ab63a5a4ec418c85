use Rattle.std.proofs.Common.{◌≡◌, ℕ, ◌-◌, ◌*◌, ◌/◌, ◌%◌, ◌^◌, ap, ◌∙◌, subst}
use Rattle.std.proofs.Math.Nat.{mul-mod_left}
use Rattle.fws_rules.proofs.networks.net_end.Goals as goal

-- src/networks.rt:24:5
pub net-requires-clause-clear : goal.net-requires-clause-clear
net-requires-clause-clear c =
    let P : ℕ → Type 0 = λ t. c.from-2.result / c.pow-size.result * c.pow-size.result % t ≡ 0 in
    subst P (c.pow-size.ensures ∙ ap (λ k. 2 ^ (32 - k)) c.from.ensures) (mul-mod_left (c.from-2.result / c.pow-size.result) c.pow-size.result)
