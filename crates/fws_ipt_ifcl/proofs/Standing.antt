-- New packets on their way through the file's chains have what was written over the fields with which they entered.
use Rattle.std.proofs.Common.{◌≡◌, ℕ, zero, suc, Bool, true, false, cond, nat_eq, Option, Some, None, List, [], ◌∷◌, refl}
use Rattle.std.specs.List.{list_any}
use Rattle.fws_net.specs.declared.packet.Packet.{Packet}
use Rattle.fws_net.specs.declared.connection.Kind.{Kind}
use Rattle.fws_net.specs.declared.connection.Kind.TheVariants.{New, Est}
use Rattle.fws_net.specs.declared.site.Site.{Site}
use Rattle.fws_net.specs.Conditions.{holds}
use Rattle.fws_net.specs.Connections.{is_est}
use Rattle.fws_net.specs.Ends.{host_end}
use Rattle.fws_net.specs.Showing.{sending}
use Rattle.fws_net.specs.Transits.{rewritten}
use Rattle.fws_ipt.specs.declared.config.IptGo.{IptGo}
use Rattle.fws_ipt.specs.declared.config.IptGo.TheVariants as goes
use Rattle.fws_ipt.specs.declared.config.IptRule.{IptRule}
use Rattle.fws_ipt.specs.declared.config.IptChain.{IptChain}
use Rattle.fws_ipt.specs.declared.hook.Hook.{Hook}
use Rattle.fws_ipt.specs.declared.passage.Passage.{Passage}
use Rattle.fws_ipt.specs.declared.passage.ChainEnd.{ChainEnd}
use Rattle.fws_ipt.specs.declared.passage.ChainEnd.TheVariants.{Accepted, Dropped, Through}
use Rattle.fws_rules.specs.Networks.{net_end}
use Rattle.fws_ipt.specs.Walk.{view_at, with_src, with_dst, with_mark, writes_dst_at, writes_src_at, masquerades_at, redirect_addr, masqueraded, back, act, rules_walk, rules_at, chain_walk}

-- a new packet that entered as p
abbrev pub Stands : Kind → Packet → Passage → Type 0
Stands New p m = m.packet ≡ rewritten p m.wrote
Stands (Est r) p m = Unit {0}

-- wherever it leaves a chain
abbrev pub StandsAt : Kind → Packet → ChainEnd → Type 0
StandsAt k p (Accepted m) = Stands k p m
StandsAt k p Dropped = Unit {0}
StandsAt k p (Through m) = Stands k p m

module _ (site : Site) (p : Packet) (hook : Hook) where
  either : (b : Bool) (x y : ChainEnd) → StandsAt New p x → StandsAt New p y → StandsAt New p (cond b x y)
  either true x y h g = h
  either false x y h g = g

  back_stands : (next : Passage → ChainEnd) → ((m : Passage) → Stands New p m → StandsAt New p (next m))
      → (end : ChainEnd) → StandsAt New p end → StandsAt New p (back next end)
  back_stands next on (Accepted m) h = h
  back_stands next on Dropped h = h
  back_stands next on (Through m) h = on m h

  masqueraded_stands : (entry : Option ℕ) (m : Passage) → Stands New p m → StandsAt New p (masqueraded site p entry m)
  masqueraded_stands None m h = h
  masqueraded_stands (Some entry) m h = refl

  act_stands : (enter : ℕ → Passage → ChainEnd) (next : Passage → ChainEnd)
      → ((c : ℕ) (m : Passage) → Stands New p m → StandsAt New p (enter c m)) → ((m : Passage) → Stands New p m → StandsAt New p (next m))
      → (go : IptGo) (m : Passage) → Stands New p m → StandsAt New p (act enter next site p hook go m)
  act_stands enter next ins on goes.Accept m h = h
  act_stands enter next ins on goes.Drop m h = tt
  act_stands enter next ins on goes.Return m h = h
  act_stands enter next ins on goes.Next m h = on m h
  act_stands enter next ins on (goes.Jump c) m h = back_stands next on (enter c m) (ins c m h)
  act_stands enter next ins on (goes.Goto c) m h = ins c m h
  act_stands enter next ins on (goes.Mark v) m h = on (with_mark v m) h
  act_stands enter next ins on (goes.Source e) m h = either (writes_src_at hook) (Accepted (with_src p e m)) (next m) refl (on m h)
  act_stands enter next ins on goes.Masquerade m h =
      either (masquerades_at hook) (back next (masqueraded site p (sending site m.packet) m)) (next m)
      (back_stands next on (masqueraded site p (sending site m.packet) m) (masqueraded_stands (sending site m.packet) m h)) (on m h)
  act_stands enter next ins on (goes.Dest e) m h = either (writes_dst_at hook) (Accepted (with_dst p e m)) (next m) refl (on m h)
  act_stands enter next ins on (goes.Redirect port) m h =
      either (writes_dst_at hook) (Accepted (with_dst p (host_end (redirect_addr site p) port) m)) (next m) refl (on m h)
  act_stands enter next ins on (goes.Netmap net) m h =
      either (writes_dst_at hook) (Accepted (with_dst p (net_end net) m)) (cond (writes_src_at hook) (Accepted (with_src p (net_end net) m)) (next m)) refl
      (either (writes_src_at hook) (Accepted (with_src p (net_end net) m)) (next m) refl (on m h))

  rules_stand : (enter : ℕ → Passage → ChainEnd) → ((c : ℕ) (m : Passage) → Stands New p m → StandsAt New p (enter c m))
      → (rules : List IptRule) (m : Passage) → Stands New p m → StandsAt New p (rules_walk enter site p false hook rules m)
  rules_stand enter ins [] m h = h
  rules_stand enter ins (r ∷ rs) m h =
      either (holds r.cond (view_at site false hook m)) (act enter (rules_walk enter site p false hook rs) site p hook r.go m) (rules_walk enter site p false hook rs m)
      (act_stands enter (rules_walk enter site p false hook rs) ins (rules_stand enter ins rs) r.go m h) (rules_stand enter ins rs m h)

  chain_stands : (chains : List IptChain) (n : ℕ) (path : List ℕ) (c : ℕ) (m : Passage) → Stands New p m
      → StandsAt New p (chain_walk chains site p false hook n path c m)
  chain_stands chains zero path c m h = tt
  chain_stands chains (suc n) path c m h =
      either (list_any (nat_eq c) path) Dropped (rules_walk (chain_walk chains site p false hook n (c ∷ path)) site p false hook (rules_at chains c) m) tt
      (rules_stand (chain_walk chains site p false hook n (c ∷ path)) (chain_stands chains n (c ∷ path)) (rules_at chains c) m h)

established : (r : _) (p : Packet) (end : ChainEnd) → StandsAt (Est r) p end
established r p (Accepted m) = tt
established r p Dropped = tt
established r p (Through m) = tt

-- every packet stands where it leaves a chain
pub all_stand : (k : Kind) (site : Site) (p : Packet) (hook : Hook) (chains : List IptChain) (n : ℕ) (path : List ℕ) (c : ℕ) (m : Passage) → Stands k p m
    → StandsAt k p (chain_walk chains site p (is_est k) hook n path c m)
all_stand New site p hook chains n path c m h = chain_stands site p hook chains n path c m h
all_stand (Est r) site p hook chains n path c m h = established r p (chain_walk chains site p true hook n path c m)
