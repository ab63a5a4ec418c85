-- The rules of a diagram to which a rule of iptables is unfolded.
use Rattle.std.specs.Prelude.{ℕ, zero, suc, ◌+◌, Bool, true, false, Option, None, List, [], ◌∷◌, ◌++◌, length, map, if◌then◌else◌}
use Rattle.fws_num.specs.declared.prefix.Prefix.{Prefix}
use Rattle.fws_iv.specs.declared.iv.Iv.{Iv}
use Rattle.fws_net.specs.declared.condition.Lit.{Lit}
use Rattle.fws_net.specs.declared.condition.Test.{Test}
use Rattle.fws_net.specs.declared.condition.Test.TheVariants.{Recv, Xmit, Outward}
use Rattle.fws_net.specs.declared.site.Site.{Site}
use Rattle.fws_net.specs.Ends.{host_end}
use Rattle.fws_net.specs.Faces.{face_addr, loopback_addr}
use Rattle.fws_ifcl.specs.declared.diagram.Act.{Act}
use Rattle.fws_ifcl.specs.declared.diagram.Act.TheVariants.{Accept, Drop, Return, Skip, Call, Goto, Src, Dst, OnlyTag}
use Rattle.fws_ifcl.specs.declared.diagram.Rule.{Rule}
use Rattle.fws_rules.specs.Literals.{one, positive, negative}
use Rattle.fws_ifcl_rules.specs.Rules.{ruled, always, guarded}
use Rattle.fws_ipt.specs.declared.config.IptGo.{IptGo}
use Rattle.fws_ipt.specs.declared.config.IptGo.TheVariants as goes
use Rattle.fws_rules.specs.Networks.{net_end}
use Rattle.fws_ipt_ifcl.specs.declared.side.SideTest.{SideTest}
use Rattle.fws_ipt_ifcl.specs.declared.side.SideTest.TheVariants.{First, Each}

-- the entries of loopback and of the interfaces
abbrev pub all_entries : Site → List Iv
all_entries site = one 1 (length site.faces + 1)

-- rules of which the first has the place at: where the condition holds they write and end the stage, else the walk goes on
-- behind them
abbrev pub guarded_writes : ℕ → List Lit → List Rule → List Rule
guarded_writes at cond writes = guarded at cond (writes ++ always Accept ∷ [])

-- rules for n entries from one on: each acts where the test finds its entry alone
abbrev pub by_entry : (List Iv → Test) → (ℕ → Act) → ℕ → ℕ → List Rule
by_entry test act from zero = []
by_entry test act from (suc n) = ruled (positive (test (one from from)) ∷ []) (act from) ∷ by_entry test act (suc from) n

-- MASQUERADE writes the address of the sending interface
abbrev pub masquerading : Site → List Rule
masquerading site = by_entry Xmit (λ entry. Src (host_end (face_addr site entry) None)) 1 (length site.faces + 1)

-- REDIRECT writes the address of the receiving interface, and 127.0.0.1 for the host's own packets
abbrev pub redirecting : Site → Option ℕ → List Rule
redirecting site port =
    by_entry Recv (λ entry. Dst (host_end (face_addr site entry) port)) 1 (length site.faces + 1)
    ++ ruled (negative (Recv (all_entries site)) ∷ []) (Dst (host_end loopback_addr port)) ∷ []

-- on one side of routing
abbrev pub side : Bool → Lit
side outward = if outward then positive Outward else negative Outward

-- the condition on one side of routing
abbrev pub at_side : Bool → List Lit → List Lit
at_side outward cond = cond ++ side outward ∷ []

-- the rule on one side of routing
abbrev pub sided : Bool → Rule → Rule
sided outward r = ruled (at_side outward r.cond) r.act

-- rules of which the first has the place at: where the condition holds on one side of routing, and more with it, they write and end the
-- stage, else the walk goes on behind them. All this is asked for in the first of them; or there the condition alone, the side in each
-- that writes or ends, and more in the last
abbrev pub side_writes : SideTest → ℕ → List Lit → Bool → List Lit → List Rule → List Rule
side_writes First at cond outward more writes = guarded_writes at (cond ++ side outward ∷ more) writes
side_writes Each at cond outward more writes = guarded at cond (map (sided outward) (writes ++ ruled more Accept ∷ []))

-- NETMAP writes the source in a chain that packets meet as they leave or are delivered, else the destination
abbrev pub mapping : Bool → Prefix → Act
mapping on_source net = if on_source then Src (net_end net) else Dst (net_end net)

-- The rules of a rule, of which the first has the place at. The rules of nat are met where sources are written, which is
-- outward, and where destinations are; those that write the other end are passed over
abbrev pub unfolded : SideTest → Site → Bool → ℕ → List Lit → IptGo → List Rule
unfolded test site on_source at cond goes.Accept = ruled cond Accept ∷ []
unfolded test site on_source at cond goes.Drop = ruled cond Drop ∷ []
unfolded test site on_source at cond goes.Return = ruled cond Return ∷ []
unfolded test site on_source at cond goes.Next = ruled cond (Skip (at + 1)) ∷ []
unfolded test site on_source at cond (goes.Jump c) = ruled cond (Call (c + 3)) ∷ []
unfolded test site on_source at cond (goes.Goto c) = ruled cond (Goto (c + 3)) ∷ []
unfolded test site on_source at cond (goes.Mark v) = ruled cond (OnlyTag v) ∷ []
unfolded test site on_source at cond (goes.Source e) = side_writes test at cond true [] (always (Src e) ∷ [])
unfolded test site on_source at cond goes.Masquerade =
    side_writes test at cond true (positive (Xmit (all_entries site)) ∷ []) (masquerading site)
unfolded test site on_source at cond (goes.Dest e) = side_writes test at cond false [] (always (Dst e) ∷ [])
unfolded test site on_source at cond (goes.Redirect port) = side_writes test at cond false [] (redirecting site port)
unfolded test site on_source at cond (goes.Netmap net) = guarded_writes at cond (always (mapping on_source net) ∷ [])
