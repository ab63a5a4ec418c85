-- What is written over packets, and how chains are left.
use Rattle.std.proofs.Common.{◌≡◌, ℕ, Bool, true, false, ◌&&◌, nat_eq, Option, Some, None, List, [], ◌∷◌, ◌++◌, arith, refl, ap, eq-eqb}
use Rattle.std.proofs.lemmas.Bool.{and_from}
use Rattle.std.specs.Option.{option_eq}
use Rattle.fws_num.specs.declared.prefix.Prefix.{Prefix}
use Rattle.fws_net.specs.declared.outcome.End.{End}
use Rattle.fws_net.specs.declared.outcome.Rewrite.{Rewrite}
use Rattle.fws_net.specs.declared.packet.Packet.{Packet}
use Rattle.fws_net.specs.Fates.{written_addr}
use Rattle.fws_net.specs.Transits.{nothing_written}
use Rattle.fws_tree.specs.OutcomeEquality.{end_exact, rewrite_exact}
use Rattle.fws_ipt.specs.declared.config.IptRule.{IptRule}
use Rattle.fws_ipt.specs.declared.passage.ChainEnd.TheVariants as ends
use Rattle.fws_ipt.specs.declared.passage.Passage.{Passage}
use Rattle.fws_ipt.specs.Walk.{by_policy}
use Rattle.fws_ipt_put.specs.declared.marks.Mark.{Mark}
use Rattle.fws_ipt_put.specs.Marks.{same_end, same_rewrite}
use Rattle.fws_ipt_put.proofs.NatMet.{end_written, ended}

-- what has the same plain parts is the same
pub same_rewrites : (v w : Rewrite) → same_rewrite v w ≡ true → v ≡ w
same_rewrites v w h = rewrite_exact same_end end_exact v w h

pub rewrite_itself : (w : Rewrite) → same_rewrite w w ≡ true
rewrite_itself w = ends_itself w.src w.dst where
  end_itself : (e : End) → same_end e e ≡ true
  end_itself e =
      and_from (nat_eq e.addr e.addr) (nat_eq e.len e.len && option_eq nat_eq e.port e.port) (eq-eqb e.addr e.addr refl)
      (and_from (nat_eq e.len e.len) (option_eq nat_eq e.port e.port) (eq-eqb e.len e.len refl) (port_itself e.port)) where
        port_itself : (port : Option ℕ) → option_eq nat_eq port port ≡ true
        port_itself None = refl
        port_itself (Some n) = eq-eqb n n refl

  one_itself : (end : Option End) → option_eq same_end end end ≡ true
  one_itself None = refl
  one_itself (Some e) = end_itself e

  ends_itself : (s d : Option End) → (option_eq same_end s s && option_eq same_end d d) ≡ true
  ends_itself s d = and_from (option_eq same_end s s) (option_eq same_end d d) (one_itself s) (one_itself d)

-- Chains without rules, and policies

pub nil_behind : (rules : List IptRule) → rules ++ [] ≡ rules
nil_behind [] = refl
nil_behind (r ∷ rules) = ap (λ rs. r ∷ rs) (nil_behind rules)

-- what is written is what was wanted
pub both_written : (p : Packet) (v : ℕ) (s d : Option End)
    → (end_written true p s (end_written false p d (record { packet = p; mark = v; wrote = nothing_written }))).wrote ≡ record { src = s; dst = d }
both_written p v None None = refl
both_written p v None (Some d) = refl
both_written p v (Some s) None = refl
both_written p v (Some s) (Some d) = refl

pub dst_written : (p : Packet) (v : ℕ) (d : Option End)
    → (end_written false p d (record { packet = p; mark = v; wrote = nothing_written })).packet.dst ≡ written_addr d p.dst
dst_written p v None = refl
dst_written p v (Some d) = refl

pub mark_stays : (on_source : Bool) (p : Packet) (end : Option End) (m : Passage) → (end_written on_source p end m).mark ≡ m.mark
mark_stays true p None m = refl
mark_stays true p (Some e) m = refl
mark_stays false p None m = refl
mark_stays false p (Some e) m = refl

pub source_stays : (p : Packet) (v : ℕ) (d : Option End)
    → ((end_written false p d (record { packet = p; mark = v; wrote = nothing_written })).packet.src ≡ p.src)
    × ((end_written false p d (record { packet = p; mark = v; wrote = nothing_written })).packet.proto ≡ p.proto)
source_stays p v None = (refl, refl)
source_stays p v (Some d) = (refl, refl)

pub ended_accepted : (on_source : Bool) (p : Packet) (end : Option End) (m : Passage)
    → by_policy true (ended on_source p end m (ends.Through m)) ≡ Some (end_written on_source p end m)
ended_accepted on_source p None m = refl
ended_accepted on_source p (Some e) m = refl

-- the end that is written
abbrev pub end_of : Bool → Rewrite → Option End
end_of true w = w.src
end_of false w = w.dst

-- the blocks over which it is written
abbrev pub blocks_of : Bool → Mark → List Prefix
blocks_of true mark = mark.src_blocks
blocks_of false mark = mark.dst_blocks

pub one_isnt_none : (n : ℕ) → n ≡ 1 → n ≡ 0 → ⊥
one_isnt_none n one zero_is = omega (arith, one, zero_is)
