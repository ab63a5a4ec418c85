-- Which of TCP and UDP come to each node of a tree.
use Rattle.std.specs.Prelude.{◌≡◌, ℕ, ◌+◌, ◌<◌, true, ◌&&◌, nat_eq, if◌then◌else◌, Some, List, length, slice_get, slice_index_or, All}
use Rattle.fws_iv.specs.declared.iv.Iv.{Iv}
use Rattle.fws_iv.specs.Ivs.{has}
use Rattle.fws_tree.specs.declared.node.Kid.{Kid}
use Rattle.fws_tree.specs.declared.node.Node.{Node}
use Rattle.fws_tree.specs.declared.node.Node.TheVariants.{Cut}
use Rattle.fws_ipt_put_chains.specs.declared.coming.Coming.{Coming}

-- both, and neither
abbrev pub both : Coming
both = record { tcp = true; udp = true }

-- what comes to a kid with this set, where a field is cut
abbrev pub narrowed : ℕ → List Iv → Coming → Coming
narrowed f set c = if nat_eq f 1 then record { tcp = c.tcp && has set 6; udp = c.udp && has set 17 } else c

-- all that is in the one is in the other
pub record IsCovered (c d : Coming) : Type 0 where
  pub tcp : c.tcp ≡ true → d.tcp ≡ true
  pub udp : c.udp ≡ true → d.udp ≡ true

abbrev pub coming_at : List Coming → ℕ → Coming
coming_at comings k = slice_index_or comings k both

-- what comes to the nodes: to a kid all that its set lets through
abbrev pub Flows : List Node → List Coming → ℕ → Type 0
Flows nodes comings k = (f : ℕ) (ks : List Kid) → slice_get nodes k ≡ Some (Cut f ks)
    → All (λ kid. IsCovered (narrowed f kid.set (coming_at comings k)) (coming_at comings kid.node)) ks

-- there is one for each node, both come to the last one, and the others have what flows to them
pub record AreComings (nodes : List Node) (comings : List Coming) : Type 0 where
  pub size : length comings ≡ length nodes
  pub last : (k : ℕ) → length nodes ≡ k + 1 → IsCovered both (coming_at comings k)
  pub flows : (k : ℕ) → k < length nodes → Flows nodes comings k
