-- How many rules rules are unfolded to.
use Rattle.std.proofs.Common.{◌≡◌, ℕ, zero, suc, ◌+◌, ◌-◌, ◌<◌, Bool, true, false, Option, Some, None, List, [], ◌∷◌, ◌++◌, length, map, arith, refl, sym, ap, ◌∙◌, append_assoc, length-append}
use Rattle.std.proofs.lemmas.List.{length-map}
use Rattle.fws_iv.specs.declared.iv.Iv.{Iv}
use Rattle.fws_net.specs.declared.condition.Lit.{Lit}
use Rattle.fws_net.specs.declared.condition.Test.{Test}
use Rattle.fws_net.specs.declared.condition.Test.TheVariants.{Recv, Xmit}
use Rattle.fws_net.specs.Ends.{host_end}
use Rattle.fws_net.specs.Faces.{face_addr, loopback_addr}
use Rattle.fws_net.specs.declared.site.Site.{Site}
use Rattle.fws_ifcl.specs.declared.diagram.Act.{Act}
use Rattle.fws_ifcl.specs.declared.diagram.Act.TheVariants.{Accept, Src, Dst}
use Rattle.fws_ifcl.specs.declared.diagram.Rule.{Rule}
use Rattle.fws_rules.specs.Literals.{one, positive, negative}
use Rattle.fws_ifcl_rules.specs.Rules.{ruled, always}
use Rattle.fws_ipt.specs.declared.config.IptTable.{IptTable}
use Rattle.fws_ipt.specs.declared.config.IptTable.TheVariants.{Filter, Nat, Mangle}
use Rattle.fws_ipt.specs.declared.config.IptGo.{IptGo}
use Rattle.fws_ipt.specs.declared.config.IptGo.TheVariants as goes
use Rattle.fws_ipt.specs.declared.config.IptRule.{IptRule}
use Rattle.fws_ipt.specs.Refusals.{width_of, head_width}
use Rattle.fws_ipt_ifcl.specs.declared.side.SideTest.{SideTest}
use Rattle.fws_ipt_ifcl.specs.declared.side.SideTest.TheVariants.{First, Each}
use Rattle.fws_ipt_ifcl.specs.Blocks.{all_entries, guarded_writes, by_entry, masquerading, redirecting, side, sided, side_writes, mapping, unfolded}
use Rattle.fws_ipt_ifcl.specs.Diagram.{headed, unfolded_all}

pub guarded_width : (at : ℕ) (cond : List Lit) (writes : List Rule) → length (guarded_writes at cond writes) ≡ 3 + length writes
guarded_width at cond writes =
    let all : length (writes ++ always Accept ∷ []) ≡ length writes + 1 = length-append writes (always Accept ∷ []) in
    omega (arith, all)

pub side_width : (asks : SideTest) (at : ℕ) (cond : List Lit) (outward : Bool) (more : List Lit) (writes : List Rule) → length (side_writes asks at cond outward more writes) ≡ 3 + length writes
side_width First at cond outward more writes = guarded_width at (cond ++ side outward ∷ more) writes
side_width Each at cond outward more writes =
    let inner = writes ++ ruled more Accept ∷ [] in
    let all : length inner ≡ length writes + 1 = length-append writes (ruled more Accept ∷ []) in
    let same : length (map (sided outward) inner) ≡ length inner = length-map inner (sided outward) in
    omega (arith, all, same)

pub by_entry_width : (test : List Iv → Test) (act : ℕ → Act) (from n : ℕ) → length (by_entry test act from n) ≡ n
by_entry_width test act from zero = refl
by_entry_width test act from (suc n) = ap suc (by_entry_width test act (suc from) n)

pub masquerading_width : (site : Site) → length (masquerading site) ≡ length site.faces + 1
masquerading_width site = by_entry_width Xmit (λ entry. Src (host_end (face_addr site entry) None)) 1 (length site.faces + 1)

pub redirecting_width : (site : Site) (port : Option ℕ) → length (redirecting site port) ≡ length site.faces + 2
redirecting_width site port =
    let act : ℕ → Act = λ entry. Dst (host_end (face_addr site entry) port) in
    let last : Rule = ruled (negative (Recv (all_entries site)) ∷ []) (Dst (host_end loopback_addr port)) in
    let both : length (redirecting site port) ≡ length (by_entry Recv act 1 (length site.faces + 1)) + 1 =
    length-append (by_entry Recv act 1 (length site.faces + 1)) (last ∷ []) in
    let entries : length (by_entry Recv act 1 (length site.faces + 1)) ≡ length site.faces + 1 = by_entry_width Recv act 1 (length site.faces + 1) in
    omega (arith, both, entries)

pub unfolded_width : (asks : SideTest) (site : Site) (on_source : Bool) (at : ℕ) (cond : List Lit) (go : IptGo)
    → length (unfolded asks site on_source at cond go) ≡ width_of (length site.faces) go
unfolded_width asks site on_source at cond goes.Accept = refl
unfolded_width asks site on_source at cond goes.Drop = refl
unfolded_width asks site on_source at cond goes.Return = refl
unfolded_width asks site on_source at cond goes.Next = refl
unfolded_width asks site on_source at cond (goes.Jump c) = refl
unfolded_width asks site on_source at cond (goes.Goto c) = refl
unfolded_width asks site on_source at cond (goes.Mark v) = refl
unfolded_width asks site on_source at cond (goes.Source e) = side_width asks at cond true [] (always (Src e) ∷ [])
unfolded_width asks site on_source at cond goes.Masquerade =
    let entries : length (masquerading site) ≡ length site.faces + 1 = masquerading_width site in
    let all : length (unfolded asks site on_source at cond goes.Masquerade) ≡ 3 + length (masquerading site) =
    side_width asks at cond true (positive (Xmit (all_entries site)) ∷ []) (masquerading site) in
    omega (arith, entries, all)
unfolded_width asks site on_source at cond (goes.Dest e) = side_width asks at cond false [] (always (Dst e) ∷ [])
unfolded_width asks site on_source at cond (goes.Redirect port) =
    let entries = redirecting_width site port in
    let all : length (unfolded asks site on_source at cond (goes.Redirect port)) ≡ 3 + length (redirecting site port) =
    side_width asks at cond false [] (redirecting site port) in
    omega (arith, entries, all)
unfolded_width asks site on_source at cond (goes.Netmap net) = guarded_width at cond (always (mapping on_source net) ∷ [])

pub headed_width : (table : IptTable) (policy : Option Bool) → length (headed table policy) ≡ head_width table policy
headed_width Nat (Some accepts) = refl
headed_width Nat None = refl
headed_width Filter policy = refl
headed_width Mangle policy = refl

-- a rule more behind those that stand
pub unfolded_next : (asks : SideTest) (site : Site) (on_source : Bool) (built made : List Rule) (r : IptRule) (rs : List IptRule)
    → made ≡ built ++ unfolded asks site on_source (length built) r.cond r.go
    → made ++ unfolded_all asks site on_source (length made) rs ≡ built ++ unfolded_all asks site on_source (length built) (r ∷ rs)
unfolded_next asks site on_source built made r rs is =
    let here = unfolded asks site on_source (length built) r.cond r.go in
    let far : length made ≡ length built + width_of (length site.faces) r.go =
    ap length is ∙ length-append built here ∙ ap (λ n. length built + n) (unfolded_width asks site on_source (length built) r.cond r.go) in
    ap (λ n. made ++ unfolded_all asks site on_source n rs) far
    ∙ ap (λ xs. xs ++ unfolded_all asks site on_source (length built + width_of (length site.faces) r.go) rs) is
    ∙ append_assoc built here (unfolded_all asks site on_source (length built + width_of (length site.faces) r.go) rs)

-- one entry more
pub by_entry_next : (test : List Iv → Test) (act : ℕ → Act) (from past : ℕ) → from < past
    → by_entry test act from (past - from) ≡ ruled (positive (test (one from from)) ∷ []) (act from) ∷ by_entry test act (from + 1) (past - (from + 1))
by_entry_next test act from past lt =
    let some : past - from ≡ suc (past - (from + 1)) = omega arith in
    let next : suc from ≡ from + 1 = omega arith in
    ap (by_entry test act from) some ∙ ap (λ n. ruled (positive (test (one from from)) ∷ []) (act from) ∷ by_entry test act n (past - (from + 1))) next

-- the loop over entries, one entry further
pub entry_built : (test : List Iv → Test) (act : ℕ → Act) (from past : ℕ) (built made : List Rule) (rule : Rule) (whole : List Rule) → from < past
    → made ≡ built ++ rule ∷ [] → rule ≡ ruled (positive (test (one from from)) ∷ []) (act from)
    → built ++ by_entry test act from (past - from) ≡ whole → made ++ by_entry test act (from + 1) (past - (from + 1)) ≡ whole
entry_built test act from past built made rule whole lt put is so_far =
    ap (λ rules. rules ++ by_entry test act (from + 1) (past - (from + 1))) (put ∙ ap (λ r. built ++ r ∷ []) is)
    ∙ append_assoc built (ruled (positive (test (one from from)) ∷ []) (act from) ∷ []) (by_entry test act (from + 1) (past - (from + 1)))
    ∙ ap (λ rules. built ++ rules) (sym (by_entry_next test act from past lt))
    ∙ so_far
