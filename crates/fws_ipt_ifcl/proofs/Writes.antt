-- What the rules for entries write.
use Rattle.std.proofs.Common.{◌≡◌, ℕ, zero, suc, ◌+◌, ◌<◌, ◌≤◌, true, false, cond, ◌&&◌, ◌||◌, nat_le, Option, None, List, [], ◌∷◌, length, arith, refl, sym, ap, ◌∙◌, subst, ⊎_elim}
use Rattle.std.proofs.lemmas.List.Folds.{list_all-append}
use Rattle.std.proofs.lemmas.Bool.{le-leb, cond-true, cond-false, false_from_ne_true, cases_eq, leb-true, or_from, and_parts, and_from}
use Rattle.fws_iv.specs.declared.iv.Iv.{Iv}
use Rattle.fws_iv.specs.Ivs.{has}
use Rattle.fws_net.specs.declared.condition.Test.{Test}
use Rattle.fws_net.specs.declared.condition.Test.TheVariants.{Recv, Xmit}
use Rattle.fws_net.specs.declared.packet.Packet.{Packet}
use Rattle.fws_net.specs.declared.connection.Kind.{Kind}
use Rattle.fws_net.specs.declared.site.Site.{Site}
use Rattle.fws_net.specs.declared.transit.Transit.{Transit}
use Rattle.fws_net.specs.Conditions.{holds}
use Rattle.fws_net.specs.Ends.{host_end}
use Rattle.fws_net.specs.Faces.{face_addr}
use Rattle.fws_ifcl.specs.declared.diagram.Act.{Act}
use Rattle.fws_ifcl.specs.declared.diagram.Act.TheVariants.{Src, Dst}
use Rattle.fws_ifcl.specs.declared.diagram.Rule.{Rule}
use Rattle.fws_ifcl.specs.declared.diagram.Stage.{Stage}
use Rattle.fws_ifcl.specs.Walk.{sees}
use Rattle.fws_rules.specs.Literals.{one, positive}
use Rattle.fws_ipt_ifcl.specs.Blocks.{by_entry, masquerading, redirecting}
use Rattle.fws_ipt_ifcl.proofs.Guarding.{written, written_by, is_write, are_writes}

-- a number from lo to hi
pub between : (lo hi x : ℕ) → lo ≤ x → x ≤ hi → has (one lo hi) x ≡ true
between lo hi x low high =
    let a : nat_le lo x ≡ true = le-leb lo x low in
    let b : nat_le x hi ≡ true = le-leb x hi high in
    ap (λ c. (c && nat_le x hi) || false) a ∙ ap (λ c. c || false) b

-- another number than the only one
pub apart : (e x : ℕ) → (e ≡ x → ⊥) → has (one e e) x ≡ false
apart e x other =
    or_from (nat_le e x && nat_le x e) false
    (false_from_ne_true (nat_le e x && nat_le x e)
    (λ h. let both = and_parts (nat_le e x) (nat_le x e) h in
    let low : e ≤ x = leb-true e x both.0 in
    let high : x ≤ e = leb-true x e both.1 in
    other (omega (arith, low, high)))) refl

-- rules for entries write
pub entries_write : (test : List Iv → Test) (act : ℕ → Act) → ((e : ℕ) → is_write (act e) ≡ true) → (from n : ℕ) → are_writes (by_entry test act from n) ≡ true
entries_write test act writes from zero = refl
entries_write test act writes from (suc n) =
    and_from (is_write (act from)) (are_writes (by_entry test act (suc from) n)) (writes from) (entries_write test act writes (suc from) n)

pub masquerading_writes : (site : Site) → are_writes (masquerading site) ≡ true
masquerading_writes site = entries_write Xmit (λ entry. Src (host_end (face_addr site entry) None)) (λ e. refl) 1 (length site.faces + 1)

pub redirecting_writes : (site : Site) (port : Option ℕ) → are_writes (redirecting site port) ≡ true
redirecting_writes site port =
    let act : ℕ → Act = λ entry. Dst (host_end (face_addr site entry) port) in
    list_all-append (λ (r : Rule). _) (by_entry Recv act 1 (length site.faces + 1)) (_ ∷ [])
    ∙ ap (λ b. b && true) (entries_write Recv act (λ e. refl) 1 (length site.faces + 1))

module _ (site : Site) (p : Packet) (k : Kind) (stage : Stage) (test : List Iv → Test) (act : ℕ → Act) where
  -- entries from one on at which no rule's test holds
  pub entries_missed : (from n : ℕ) (t : Transit)
      → ((e : ℕ) → from ≤ e → holds (positive (test (one e e)) ∷ []) (sees site k stage t) ≡ false)
      → written_by site p k stage (by_entry test act from n) t ≡ t
  entries_missed from zero t miss = refl
  entries_missed from (suc n) t miss =
      let same : cond (holds (positive (test (one from from)) ∷ []) (sees site k stage t)) (written p (act from) t) t ≡ t =
      cond-false (holds (positive (test (one from from)) ∷ []) (sees site k stage t)) (written p (act from) t) t (miss from (omega arith)) in
      ap (written_by site p k stage (by_entry test act (suc from) n)) same
      ∙ entries_missed (suc from) n t (λ e le. miss e (omega arith))

  -- entries of which one is found, ahead of the writing and behind it
  pub entries_hit : (x from n : ℕ) (t : Transit) → from ≤ x → x < from + n
      → holds (positive (test (one x x)) ∷ []) (sees site k stage t) ≡ true
      → ((e : ℕ) → (e ≡ x → ⊥) → holds (positive (test (one e e)) ∷ []) (sees site k stage t) ≡ false)
      → ((e : ℕ) → (e ≡ x → ⊥) → holds (positive (test (one e e)) ∷ []) (sees site k stage (written p (act x) t)) ≡ false)
      → written_by site p k stage (by_entry test act from n) t ≡ written p (act x) t
  entries_hit x from zero t low high hit miss after = absurd (omega arith)
  entries_hit x from (suc n) t low high hit miss after =
      ⊎_elim
      (λ same. subst
      (λ e. written_by site p k stage (by_entry test act (suc from) n) (cond (holds (positive (test (one e e)) ∷ []) (sees site k stage t)) (written p (act e) t) t) ≡ written p (act x) t)
      (sym same)
      (ap (written_by site p k stage (by_entry test act (suc from) n)) (cond-true (holds (positive (test (one x x)) ∷ []) (sees site k stage t)) (written p (act x) t) t hit)
      ∙ entries_missed (suc from) n (written p (act x) t) (λ e le. after e (λ is. let less : from ≡ x = same in omega (arith, less, is)))))
      (λ other.
      let more : suc from ≤ x = omega (arith, other) in
      let still : x < suc from + n = omega arith in
      ap (written_by site p k stage (by_entry test act (suc from) n)) (cond-false (holds (positive (test (one from from)) ∷ []) (sees site k stage t)) (written p (act from) t) t (miss from other))
      ∙ entries_hit x (suc from) n t more still hit miss after)
      (cases_eq from x)
