-- Acts that decide as a tree does.
use Rattle.std.specs.Prelude.{◌≡◌, ◌⊎◌, ℕ, ◌+◌, ◌≤◌, ◌<◌, Bool, true, List, ◌++◌, length, All}
use Rattle.fws_net.specs.declared.packet.Packet.{Packet}
use Rattle.fws_net.specs.declared.site.Site.{Site}
use Rattle.fws_ipt.specs.declared.config.IptChain.{IptChain}
use Rattle.fws_ipt.specs.declared.config.IptGo.{IptGo}
use Rattle.fws_ipt.specs.declared.hook.Hook.{Hook}
use Rattle.fws_ipt.specs.declared.passage.ChainEnd.{ChainEnd}
use Rattle.fws_ipt.specs.declared.passage.Passage.{Passage}
use Rattle.fws_ipt.specs.Walk.{act, chain_walk}
use Rattle.fws_tree.specs.Plain.{Plain}
use Rattle.fws_tree_seen.specs.declared.seen.Seen.{Seen}
use Rattle.fws_tree_seen.specs.Reached.{IsTopped, Reaches}
use Rattle.fws_ipt_put_chains.specs.declared.coming.Coming.{Coming}
use Rattle.fws_ipt_put_chains.specs.declared.verdict.Verdict.{Verdict}
use Rattle.fws_ipt_put_chains.specs.Branches.{verdict_end}
use Rattle.fws_ipt_put_chains.specs.Pieces.{may_come}

-- chains that a walk may still enter: those from least on and before the number
abbrev pub LeavesOut : ℕ → ℕ → List ℕ → Type 0
LeavesOut least number path = All (λ c. (c < least) ⊎ (number ≤ c)) path

-- an act decides on a packet that may come as the tree does, by what is seen of it
pub record Decides (tops : List ℕ) (seen : Seen) (least before : ℕ) (chains : List IptChain) (coming : Coming) (t : Plain Verdict) (go : IptGo) : Type 0 where
  pub at : (further : List IptChain) (site : Site) (p : Packet) (is_est : Bool) (hook : Hook) (n : ℕ) (path : List ℕ)
      (next : Passage → ChainEnd) (m : Passage)
      → length chains < before + n → LeavesOut least (length chains) path → may_come coming m.packet.proto ≡ true → IsTopped tops seen m.packet
      → (w : Verdict) × Reaches seen m.packet t w × (act (chain_walk (chains ++ further) site p is_est hook n path) next site p hook go m ≡ verdict_end w m)
