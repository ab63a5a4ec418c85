-- Rules of nat write the ends of packets with their mark, and pass all others.
use Rattle.std.proofs.Common.{◌≡◌, ℕ, zero, suc, ◌+◌, ◌-◌, ◌*◌, ◌/◌, ◌%◌, ◌^◌, ◌<◌, ◌≤◌, ◌⊎◌, inl, inr, Bool, true, false, cond, ◌&&◌, ◌||◌, nat_eq, nat_lt, nat_le, slice_get, Option, Some, None, List, [], ◌∷◌, ◌++◌, map, All, arith, refl, sym, ap, ◌∙◌, append_assoc, eq-eqb}
use Rattle.std.proofs.lemmas.Bool.{false≢true, ne_eqb, ltb-true, cases_order}
use Rattle.std.proofs.lemmas.Nat.{pow_pos, div-add-mod'}
use Rattle.std.proofs.Math.Nat.{mul-le-mul_left}
use Rattle.std.proofs.lemmas.Bool.Decides.{nat_tests}
use Rattle.std.proofs.lemmas.List.Elements.{All-head, All-tail}
use Rattle.fws_num.specs.declared.prefix.Prefix.{Prefix}
use Rattle.fws_iv.specs.Ivs.{has}
use Rattle.fws_iv.specs.Prefixes.{IsBlock, prefix_has, some_prefix_has}
use Rattle.fws_net.specs.Conditions.{lit_holds}
use Rattle.fws_net.specs.declared.condition.Test.TheVariants.{Proto, Tag}
use Rattle.fws_net.specs.declared.outcome.End.{End}
use Rattle.fws_net.specs.declared.packet.Packet.{Packet}
use Rattle.fws_net.specs.declared.site.Site.{Site}
use Rattle.fws_rules.specs.Networks.{net_end, written_len}
use Rattle.fws_tree.specs.OutcomeEquality.{end_same}
use Rattle.fws_ipt.specs.declared.config.IptGo.TheVariants as acts
use Rattle.fws_ipt.specs.declared.config.IptRule.{IptRule}
use Rattle.fws_ipt.specs.declared.hook.Hook.{Hook}
use Rattle.fws_ipt.specs.declared.hook.Hook.TheVariants.{Prerouting, Input, Forward, Output, Postrouting}
use Rattle.fws_ipt.specs.declared.passage.ChainEnd.{ChainEnd}
use Rattle.fws_ipt.specs.declared.passage.ChainEnd.TheVariants as ends
use Rattle.fws_ipt.specs.declared.passage.Passage.{Passage}
use Rattle.fws_ipt.specs.Walk.{act, rules_walk, view_at, with_src, with_dst, writes_dst_at, writes_src_at}
use Rattle.fws_ipt_put.specs.declared.marks.Mark.{Mark}
use Rattle.fws_ipt_put.specs.NatRules.{asked, writing, addresses, lies_in, whole_rule, port_rule, block_rule, one_if, port_rules, rules_for, end_rules, mark_rules_at, nat_rules}
use Rattle.fws_ipt_put.proofs.RootsMet.{runs, fits, met, passed}

-- What is written

-- the packet with the end over its source, or over its destination
abbrev pub written : Bool → Packet → End → Passage → Passage
written true p e m = with_src p e m
written false p e m = with_dst p e m

abbrev pub end_written : Bool → Packet → Option End → Passage → Passage
end_written on_source p None m = m
end_written on_source p (Some e) m = written on_source p e m

-- how a list of rules is left that writes an end, where there is one; else the rules behind it count
abbrev pub ended : Bool → Packet → Option End → Passage → ChainEnd → ChainEnd
ended on_source p None m rest = rest
ended on_source p (Some e) m rest = ends.Accepted (written on_source p e m)

-- rules at the hook write such an end
abbrev pub Writes : Bool → Hook → Type 0
Writes true hook = (writes_dst_at hook ≡ false) × (writes_src_at hook ≡ true)
Writes false hook = writes_dst_at hook ≡ true

-- the address over which it is written
abbrev pub address_of : Bool → Packet → ℕ
address_of true packet = packet.src
address_of false packet = packet.dst

-- Options and sets

none_some : {X : Type 0} {x : X} → None ≡ Some x → ⊥
none_some h = cc

some_same : {X : Type 0} {x y : X} → Some x ≡ Some y → x ≡ y
some_same h = cc

one_is : (n x : ℕ) → has (record { lo = n; hi = n } ∷ []) x ≡ nat_eq n x
one_is n x = grind (arith, nat_tests)

-- Blocks

-- the numbers with the quotient of a multiple are those from the multiple to the one ahead of the next
pub same_quotient : (s a v : ℕ) → 0 < s → a % s ≡ 0 → nat_eq (a / s) (v / s) ≡ (nat_le a v && nat_le v (a + (s - 1)))
same_quotient s a v pos whole =
    let begins : s * (a / s) + a % s ≡ a = omega arith in
    let stands : s * (v / s) + v % s ≡ v = omega arith in
    let small : v % s < s = omega arith in
    elim (cases_order (a / s) (v / s)) [
      | inl e ↦ let m : s * (a / s) ≡ s * (v / s) = ap (λ t. s * t) e in grind (arith, nat_tests)
      | inr d ↦ elim d [
        | inl lt ↦ let m : s * suc (a / s) ≤ s * (v / s) = mul-le-mul_left s lt in grind (arith, nat_tests)
        | inr gt ↦ let m : s * suc (v / s) ≤ s * (a / s) = mul-le-mul_left s gt in grind (arith, nat_tests)
      ]
    ]

-- a block has the addresses that agree with it
pub block_has : (block : Prefix) → IsBlock block → (v : ℕ) → has (addresses block) v ≡ prefix_has block v
block_has block sound v =
    or_none (nat_le block.addr v && nat_le v (block.addr + (2 ^ (32 - block.len) - 1)))
    ∙ sym (same_quotient (2 ^ (32 - block.len)) block.addr v (pow_pos (32 - block.len)) sound.cleared) where
      or_none : (b : Bool) → (b || false) ≡ b
      or_none true = refl
      or_none false = refl

-- a network is the end that it is written by
net_is : (e : End) → e.port ≡ None → net_end (record { addr = e.addr; len = e.len }) ≡ e
net_is e port =
    let low : 1 ≤ e.len = e.len_low in
    let high : e.len ≤ 32 = e.len_high in
    let len : written_len e.len ≡ e.len = omega (arith, low, high) in
    let size : ℕ = 2 ^ (32 - e.len) in
    let clear : e.addr % size ≡ 0 = e.clear in
    let whole : e.addr / size * size + e.addr % size ≡ e.addr = div-add-mod' e.addr size in
    let addr : e.addr / size * size ≡ e.addr = omega (arith, whole, clear) in
    end_same (net_end (record { addr = e.addr; len = e.len })) e (ap (λ n. e.addr / 2 ^ (32 - n) * 2 ^ (32 - n)) len ∙ addr) len (sym port)

and_false : (b : Bool) → (b && false) ≡ false
and_false true = refl
and_false false = refl

module _ (enter : ℕ → Passage → ChainEnd) (site : Site) (p : Packet) (hook : Hook) (m : Passage) where
  abbrev walked : List IptRule → ChainEnd
  walked rules = runs enter site p false hook m rules

  abbrev holding : IptRule → Bool
  holding r = fits enter site p false hook m r

  -- Rules of another mark

  tag_fails : (v : ℕ) → nat_eq v m.mark ≡ false → lit_holds (view_at site false hook m) (asked (Tag v)) ≡ false
  tag_fails v other = ap (λ b. b || false) other

  two_fail : (first : Bool) (v : ℕ) → nat_eq v m.mark ≡ false → (first && (lit_holds (view_at site false hook m) (asked (Tag v)) && true)) ≡ false
  two_fail first v other = ap (λ b. first && (b && true)) (tag_fails v other) ∙ and_false first

  one_passed : (wanted : Bool) (r : IptRule) (rest : List IptRule) → holding r ≡ false → walked (one_if wanted r ++ rest) ≡ walked rest
  one_passed true r rest off = passed enter site p false hook m r rest off
  one_passed false r rest off = refl

  blocks_passed : (on_source : Bool) (v : ℕ) (e : End) → nat_eq v m.mark ≡ false → (blocks : List Prefix) (rest : List IptRule)
      → walked (map (block_rule on_source v e) blocks ++ rest) ≡ walked rest
  blocks_passed on_source v e other [] rest = refl
  blocks_passed on_source v e other (block ∷ blocks) rest =
      passed enter site p false hook m (block_rule on_source v e block) (map (block_rule on_source v e) blocks ++ rest)
      (two_fail (lit_holds (view_at site false hook m) (asked (lies_in on_source block))) v other)
      ∙ blocks_passed on_source v e other blocks rest

  address_passed : (on_source : Bool) (v : ℕ) (e : End) → nat_eq v m.mark ≡ false → (blocks : List Prefix) (rest : List IptRule) (short : Bool)
      → walked (cond short (map (block_rule on_source v e) blocks) (whole_rule on_source v e ∷ []) ++ rest) ≡ walked rest
  address_passed on_source v e other blocks rest true = blocks_passed on_source v e other blocks rest
  address_passed on_source v e other blocks rest false =
      passed enter site p false hook m (whole_rule on_source v e) rest (ap (λ b. b && true) (tag_fails v other))

  port_fails : (on_source : Bool) (v : ℕ) (e : End) (proto : ℕ) → nat_eq v m.mark ≡ false → holding (port_rule on_source v e proto) ≡ false
  port_fails on_source v e proto other =
      two_fail (lit_holds (view_at site false hook m) (asked (Proto (record { lo = proto; hi = proto } ∷ [])))) v other

  rules_passed : (on_source : Bool) (v : ℕ) (mark : Mark) (blocks : List Prefix) (e : End) → nat_eq v m.mark ≡ false → (port : Option ℕ) (rest : List IptRule)
      → walked (rules_for on_source v mark blocks e port ++ rest) ≡ walked rest
  rules_passed on_source v mark blocks e other None rest = address_passed on_source v e other blocks rest (nat_lt e.len 32)
  rules_passed on_source v mark blocks e other (Some port) rest =
      let second = one_if mark.udp (port_rule on_source v e 17) in
      ap walked (append_assoc (one_if mark.tcp (port_rule on_source v e 6)) second rest)
      ∙ one_passed mark.tcp (port_rule on_source v e 6) (second ++ rest) (port_fails on_source v e 6 other)
      ∙ one_passed mark.udp (port_rule on_source v e 17) rest (port_fails on_source v e 17 other)

  pub end_passed : (on_source : Bool) (v : ℕ) (mark : Mark) (blocks : List Prefix) (end : Option End) → nat_eq v m.mark ≡ false → (rest : List IptRule)
      → walked (end_rules on_source v mark blocks end ++ rest) ≡ walked rest
  end_passed on_source v mark blocks None other rest = refl
  end_passed on_source v mark blocks (Some e) other rest = rules_passed on_source v mark blocks e other e.port rest

  passed_if : (wanted : Bool) (rules rest : List IptRule) → walked (rules ++ rest) ≡ walked rest → walked (cond wanted rules [] ++ rest) ≡ walked rest
  passed_if true rules rest h = h
  passed_if false rules rest h = refl

  mark_passed : (at : Hook) (v : ℕ) (mark : Mark) → nat_eq v m.mark ≡ false → (rest : List IptRule) → walked (mark_rules_at at v mark ++ rest) ≡ walked rest
  mark_passed Prerouting v mark other rest = passed_if mark.arrives _ rest (end_passed false v mark mark.dst_blocks mark.rewrite.dst other rest)
  mark_passed Input v mark other rest = passed_if mark.arrives _ rest (end_passed true v mark mark.src_blocks mark.rewrite.src other rest)
  mark_passed Forward v mark other rest = refl
  mark_passed Output v mark other rest = passed_if mark.sends _ rest (end_passed false v mark mark.dst_blocks mark.rewrite.dst other rest)
  mark_passed Postrouting v mark other rest = end_passed true v mark mark.src_blocks mark.rewrite.src other rest

  -- marks from a number above the packet's on
  pub all_passed : (at : Hook) (v : ℕ) (marks : List Mark) → m.mark < v → walked (nat_rules at v marks) ≡ ends.Through m
  all_passed at v [] above = refl
  all_passed at v (mark ∷ marks) above =
      mark_passed at v mark (ne_eqb v m.mark (omega (arith, above))) (nat_rules at (suc v) marks) ∙ all_passed at (suc v) marks (omega (arith, above))

  -- Rules of the packet's mark

  tag_holds : lit_holds (view_at site false hook m) (asked (Tag m.mark)) ≡ true
  tag_holds = ap (λ b. b || false) (eq-eqb m.mark m.mark refl)

  two_hold : (first : Bool) → first ≡ true → (first && (lit_holds (view_at site false hook m) (asked (Tag m.mark)) && true)) ≡ true
  two_hold first on = ap (λ b. b && (lit_holds (view_at site false hook m) (asked (Tag m.mark)) && true)) on ∙ ap (λ b. b && true) tag_holds

  act_writing : (on_source : Bool) (e : End) → Writes on_source hook → (next : Passage → ChainEnd)
      → act enter next site p hook (writing on_source e) m ≡ ends.Accepted (written on_source p e m)
  act_writing true e here next = ap (λ b. cond b (ends.Accepted (with_src p e m)) (next m)) here.1
  act_writing false e here next = ap (λ b. cond b (ends.Accepted (with_dst p e m)) (next m)) here

  act_netmap : (on_source : Bool) (e : End) → e.port ≡ None → Writes on_source hook → (next : Passage → ChainEnd)
      → act enter next site p hook (acts.Netmap (record { addr = e.addr; len = e.len })) m ≡ ends.Accepted (written on_source p e m)
  act_netmap true e port here next =
      let behind : ChainEnd = cond (writes_src_at hook) (ends.Accepted (with_src p (net_end (record { addr = e.addr; len = e.len })) m)) (next m) in
      ap (λ b. cond b (ends.Accepted (with_dst p (net_end (record { addr = e.addr; len = e.len })) m)) behind) here.0
      ∙ ap (λ b. cond b (ends.Accepted (with_src p (net_end (record { addr = e.addr; len = e.len })) m)) (next m)) here.1
      ∙ ap (λ x. ends.Accepted (with_src p x m)) (net_is e port)
  act_netmap false e port here next =
      let behind : ChainEnd = cond (writes_src_at hook) (ends.Accepted (with_src p (net_end (record { addr = e.addr; len = e.len })) m)) (next m) in
      ap (λ b. cond b (ends.Accepted (with_dst p (net_end (record { addr = e.addr; len = e.len })) m)) behind) here
      ∙ ap (λ x. ends.Accepted (with_dst p x m)) (net_is e port)

  block_literal : (on_source : Bool) (block : Prefix) → IsBlock block
      → lit_holds (view_at site false hook m) (asked (lies_in on_source block)) ≡ prefix_has block (address_of on_source m.packet)
  block_literal true block sound = block_has block sound m.packet.src
  block_literal false block sound = block_has block sound m.packet.dst

  abbrev has_address : Bool → Prefix → Bool
  has_address on_source block = prefix_has block (address_of on_source m.packet)

  block_first : (on_source : Bool) (e : End) → e.port ≡ None → Writes on_source hook → (block : Prefix) (blocks : List Prefix) → IsBlock block
      → some_prefix_has (block ∷ blocks) (address_of on_source m.packet) ≡ true → (behind : List IptRule)
      → (some_prefix_has blocks (address_of on_source m.packet) ≡ true → walked behind ≡ ends.Accepted (written on_source p e m))
      → (is : Bool) → has_address on_source block ≡ is → walked (block_rule on_source m.mark e block ∷ behind) ≡ ends.Accepted (written on_source p e m)
  block_first on_source e port here block blocks sound h behind later true is =
      met enter site p false hook m (block_rule on_source m.mark e block) behind
      (two_hold (lit_holds (view_at site false hook m) (asked (lies_in on_source block))) (block_literal on_source block sound ∙ is))
      ∙ act_netmap on_source e port here (rules_walk enter site p false hook behind)
  block_first on_source e port here block blocks sound h behind later false is =
      passed enter site p false hook m (block_rule on_source m.mark e block) behind
      (ap (λ b. b && (lit_holds (view_at site false hook m) (asked (Tag m.mark)) && true)) (block_literal on_source block sound ∙ is))
      ∙ later (sym (ap (λ b. b || some_prefix_has blocks (address_of on_source m.packet)) is) ∙ h)

  blocks_met : (on_source : Bool) (e : End) → e.port ≡ None → Writes on_source hook → (blocks : List Prefix) → All IsBlock blocks
      → some_prefix_has blocks (address_of on_source m.packet) ≡ true → (rest : List IptRule)
      → walked (map (block_rule on_source m.mark e) blocks ++ rest) ≡ ends.Accepted (written on_source p e m)
  blocks_met on_source e port here [] sound h rest = absurd (false≢true h)
  blocks_met on_source e port here (block ∷ blocks) sound h rest =
      block_first on_source e port here block blocks (All-head IsBlock block blocks sound) h (map (block_rule on_source m.mark e) blocks ++ rest)
      (λ among. blocks_met on_source e port here blocks (All-tail IsBlock block blocks sound) among rest) (has_address on_source block) refl

  -- what the rules for an end need of the packet: they stand there for its protocol, where a port is written, and its address
  -- lies in one of the blocks, where a network is
  pub record Suits (on_source : Bool) (mark : Mark) (blocks : List Prefix) (e : End) : Type 0 where
    pub sound : All IsBlock blocks
    pub ports : (port : ℕ) → e.port ≡ Some port → ((m.packet.proto ≡ 6) × (mark.tcp ≡ true)) ⊎ ((m.packet.proto ≡ 17) × (mark.udp ≡ true))
    pub within : e.len < 32 → some_prefix_has blocks (address_of on_source m.packet) ≡ true

  address_met : (on_source : Bool) (mark : Mark) (blocks : List Prefix) (e : End) → Writes on_source hook → Suits on_source mark blocks e → e.port ≡ None → (rest : List IptRule)
      → (short : Bool) → nat_lt e.len 32 ≡ short
      → walked (cond short (map (block_rule on_source m.mark e) blocks) (whole_rule on_source m.mark e ∷ []) ++ rest) ≡ ends.Accepted (written on_source p e m)
  address_met on_source mark blocks e here suits port rest true is =
      blocks_met on_source e port here blocks suits.sound (suits.within (ltb-true e.len 32 is)) rest
  address_met on_source mark blocks e here suits port rest false is =
      met enter site p false hook m (whole_rule on_source m.mark e) rest (ap (λ b. b && true) tag_holds) ∙ act_writing on_source e here _

  proto_literal : (proto : ℕ) → lit_holds (view_at site false hook m) (asked (Proto (record { lo = proto; hi = proto } ∷ []))) ≡ nat_eq proto m.packet.proto
  proto_literal proto = one_is proto m.packet.proto

  port_met : (on_source : Bool) (e : End) → Writes on_source hook → (proto : ℕ) → m.packet.proto ≡ proto → (wanted : Bool) → wanted ≡ true → (rest : List IptRule)
      → walked (one_if wanted (port_rule on_source m.mark e proto) ++ rest) ≡ ends.Accepted (written on_source p e m)
  port_met on_source e here proto is true on rest =
      met enter site p false hook m (port_rule on_source m.mark e proto) rest
      (two_hold (lit_holds (view_at site false hook m) (asked (Proto (record { lo = proto; hi = proto } ∷ [])))) (proto_literal proto ∙ eq-eqb proto m.packet.proto (sym is)))
      ∙ act_writing on_source e here _
  port_met on_source e here proto is false on rest = absurd (false≢true on)

  -- the rule for TCP isn't met by another protocol
  port_passed : (on_source : Bool) (e : End) (proto : ℕ) → nat_eq proto m.packet.proto ≡ false → (wanted : Bool) (rest : List IptRule)
      → walked (one_if wanted (port_rule on_source m.mark e proto) ++ rest) ≡ walked rest
  port_passed on_source e proto other wanted rest =
      one_passed wanted (port_rule on_source m.mark e proto) rest
      (ap (λ b. b && (lit_holds (view_at site false hook m) (asked (Tag m.mark)) && true)) (proto_literal proto ∙ other))

  ports_met : (on_source : Bool) (mark : Mark) (e : End) → Writes on_source hook
      → ((m.packet.proto ≡ 6) × (mark.tcp ≡ true)) ⊎ ((m.packet.proto ≡ 17) × (mark.udp ≡ true)) → (rest : List IptRule)
      → walked (port_rules on_source m.mark e mark.tcp mark.udp ++ rest) ≡ ends.Accepted (written on_source p e m)
  ports_met on_source mark e here (inl tcp) rest =
      let second = one_if mark.udp (port_rule on_source m.mark e 17) in
      ap walked (append_assoc (one_if mark.tcp (port_rule on_source m.mark e 6)) second rest)
      ∙ port_met on_source e here 6 tcp.0 mark.tcp tcp.1 (second ++ rest)
  ports_met on_source mark e here (inr udp) rest =
      let second = one_if mark.udp (port_rule on_source m.mark e 17) in
      ap walked (append_assoc (one_if mark.tcp (port_rule on_source m.mark e 6)) second rest)
      ∙ port_passed on_source e 6 (ap (nat_eq 6) udp.0) mark.tcp (second ++ rest)
      ∙ port_met on_source e here 17 udp.0 mark.udp udp.1 rest

  rules_met : (on_source : Bool) (mark : Mark) (blocks : List Prefix) (e : End) → Writes on_source hook → Suits on_source mark blocks e → (port : Option ℕ) → e.port ≡ port
      → (rest : List IptRule) → walked (rules_for on_source m.mark mark blocks e port ++ rest) ≡ ends.Accepted (written on_source p e m)
  rules_met on_source mark blocks e here suits None is rest = address_met on_source mark blocks e here suits is rest (nat_lt e.len 32) refl
  rules_met on_source mark blocks e here suits (Some port) is rest = ports_met on_source mark e here (suits.ports port is) rest

  abbrev pub SuitsEnd : Bool → Mark → List Prefix → Option End → Type 0
  SuitsEnd on_source mark blocks None = Unit {0}
  SuitsEnd on_source mark blocks (Some e) = Suits on_source mark blocks e

  end_met : (on_source : Bool) (mark : Mark) (blocks : List Prefix) → Writes on_source hook → (end : Option End) → SuitsEnd on_source mark blocks end → (rest : List IptRule)
      → walked (end_rules on_source m.mark mark blocks end ++ rest) ≡ ended on_source p end m (walked rest)
  end_met on_source mark blocks here None suits rest = refl
  end_met on_source mark blocks here (Some e) suits rest = rules_met on_source mark blocks e here suits e.port refl rest

  -- the rules of a mark stand at a hook with such an end
  abbrev pub StandsFor : Hook → Mark → Bool → List Prefix → Option End → Type 0
  StandsFor at mark on_source blocks end = (v : ℕ) → mark_rules_at at v mark ≡ end_rules on_source v mark blocks end

  ended_through : (on_source : Bool) (end : Option End) (x : ChainEnd) → x ≡ ends.Through m → ended on_source p end m x ≡ ended on_source p end m (ends.Through m)
  ended_through on_source end x is = ap (ended on_source p end m) is

  -- the rules of all marks write the end that the packet's mark stands for
  pub marks_met : (at : Hook) (on_source : Bool) → Writes on_source hook → (mark : Mark) (blocks : List Prefix) (end : Option End)
      → StandsFor at mark on_source blocks end → SuitsEnd on_source mark blocks end
      → (v : ℕ) (marks : List Mark) (i : ℕ) → slice_get marks i ≡ Some mark → m.mark ≡ v + i
      → walked (nat_rules at v marks) ≡ ended on_source p end m (ends.Through m)
  marks_met at on_source here mark blocks end stands suits v [] i is place = absurd (none_some is)
  marks_met at on_source here mark blocks end stands suits v (x ∷ marks) zero is place =
      let v_is : v ≡ m.mark = omega (arith, place) in
      let x_is : x ≡ mark = some_same is in
      ap (λ r. walked (r ++ nat_rules at (suc v) marks)) (ap (mark_rules_at at v) x_is ∙ stands v)
      ∙ ap (λ n. walked (end_rules on_source n mark blocks end ++ nat_rules at (suc v) marks)) v_is
      ∙ end_met on_source mark blocks here end suits (nat_rules at (suc v) marks)
      ∙ ended_through on_source end (walked (nat_rules at (suc v) marks)) (all_passed at (suc v) marks (omega (arith, place)))
  marks_met at on_source here mark blocks end stands suits v (x ∷ marks) (suc i) is place =
      mark_passed at v x (ne_eqb v m.mark (omega (arith, place))) (nat_rules at (suc v) marks)
      ∙ marks_met at on_source here mark blocks end stands suits (suc v) marks i is (omega (arith, place))
