-- Steps of a walk.
use Rattle.std.proofs.Common.{◌≡◌, ℕ, zero, suc, ◌-◌, ◌<◌, Bool, false, List, ◌∷◌, Result, IfOk, nat_eq, sym, ◌∙◌, arith}
use Rattle.std.proofs.lemmas.Result.{IfOk-weaker}
use Rattle.std.specs.List.{list_any}
use Rattle.fws_net.specs.declared.packet.Packet.{Packet}
use Rattle.fws_net.specs.declared.site.Site.{Site}
use Rattle.fws_ipt.specs.declared.config.IptChain.{IptChain}
use Rattle.fws_ipt.specs.declared.config.IptRule.{IptRule}
use Rattle.fws_ipt.specs.declared.hook.Hook.{Hook}
use Rattle.fws_ipt.specs.declared.passage.ChainEnd.{ChainEnd}
use Rattle.fws_ipt.specs.declared.passage.Passage.{Passage}
use Rattle.fws_ipt.specs.Walk.{chain_walk, rules_walk, rules_at}

-- a chain that is not on the path, while one more may be entered
chain_entered : (chains : List IptChain) (site : Site) (p : Packet) (is_est : Bool) (hook : Hook) (left : ℕ) (path : List ℕ) (c : ℕ) (m : Passage)
    → 0 < left → list_any (nat_eq c) path ≡ false
    → chain_walk chains site p is_est hook left path c m
    ≡ rules_walk (chain_walk chains site p is_est hook (left - 1) (c ∷ path)) site p is_est hook (rules_at chains c) m
chain_entered chains site p is_est hook zero path c m lt off = absurd (omega arith)
chain_entered chains site p is_est hook (suc n) path c m lt off =
    let same : suc n - 1 ≡ n = omega arith in
    rw (off, same)

-- what the rules of a chain give that is not on the path, walked under the path with it, is what the chain gives
pub chain_walked : {E : Type 0} (chains : List IptChain) (site : Site) (p : Packet) (is_est : Bool) (hook : Hook) (left : ℕ) (path under : List ℕ) (c : ℕ)
    (rules : List IptRule) (m : Passage) (r : Result ChainEnd E) → 0 < left → list_any (nat_eq c) path ≡ false → under ≡ c ∷ path → rules ≡ rules_at chains c
    → IfOk r (λ end. end ≡ rules_walk (chain_walk chains site p is_est hook (left - 1) under) site p is_est hook rules m)
    → IfOk r (λ end. end ≡ chain_walk chains site p is_est hook left path c m)
chain_walked chains site p is_est hook left path under c rules m r lt off u k h =
    let P : ChainEnd → Type 0 = λ end. end ≡ rules_walk (chain_walk chains site p is_est hook (left - 1) under) site p is_est hook rules m in
    let Q : ChainEnd → Type 0 = λ end. end ≡ chain_walk chains site p is_est hook left path c m in
    IfOk-weaker r P Q
    (λ end e. e ∙ (λ i. rules_walk (chain_walk chains site p is_est hook (left - 1) (u i)) site p is_est hook (k i) m)
    ∙ sym (chain_entered chains site p is_est hook left path c m lt off)) h
