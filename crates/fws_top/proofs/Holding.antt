-- How many of the targets hold tables.
use Rattle.std.proofs.Common.{◌≡◌, ℕ, suc, ◌+◌, Bool, true, false, cond, List, [], ◌∷◌, inl, inr, refl, ap, ◌∙◌, arith}
use Rattle.fws_net.specs.declared.packet.Lang.TheVariants as langs
use Rattle.fws_net.specs.declared.site.Site.{Site}
use Rattle.fws_place.specs.Fits.{Fits}
use Rattle.fws_top.specs.declared.lang.TargetLang.{TargetLang}
use Rattle.fws_top.specs.declared.lang.TargetLang.TheVariants.{Iptables, Ipfw, Pf, Ios}
use Rattle.fws_top.specs.Loads.{IsHeldCount, IsHeldOn, IsWhether, all_targets, load_line}
use Rattle.fws_tree.specs.declared.tables.Tables.{Tables}

-- one target more
held_more : (site : Site) (tables : Tables) (target : TargetLang) (targets : List TargetLang) (held : Bool) (x m n : ℕ)
    → IsWhether held (IsHeldOn site tables target) → x ≡ cond held 1 0 → IsHeldCount site tables targets m → n ≡ x + m → IsHeldCount site tables (target ∷ targets) n
held_more site tables target targets true x m n holds one rest sum =
    let more : n ≡ suc m = omega (arith, one, sum) in
    (m, rest, inl (holds, more))
held_more site tables target targets false x m n fails none rest sum =
    let same : n ≡ m = omega (arith, none, sum) in
    (m, rest, inr (fails, same))

-- all four
pub four_held : (site : Site) (tables : Tables) (a b c d : Bool) (x y z w : ℕ)
    → IsWhether a (Fits langs.Iptables site tables) → IsWhether b (Fits langs.Ipfw site tables) → IsWhether c (Fits langs.Pf site tables) → IsWhether d (Fits langs.Ios site tables)
    → x ≡ cond a 1 0 → y ≡ cond b 1 0 → z ≡ cond c 1 0 → w ≡ cond d 1 0 → IsHeldCount site tables all_targets (x + y + z + w)
four_held site tables a b c d x y z w on_iptables on_ipfw on_pf on_ios one_iptables one_ipfw one_pf one_ios =
    let sum : x + y + z + w ≡ x + (y + (z + (w + 0))) = omega arith in
    held_more site tables Iptables (Ipfw ∷ Pf ∷ Ios ∷ []) a x (y + (z + (w + 0))) (x + y + z + w) on_iptables one_iptables
    (held_more site tables Ipfw (Pf ∷ Ios ∷ []) b y (z + (w + 0)) (y + (z + (w + 0))) on_ipfw one_ipfw
    (held_more site tables Pf (Ios ∷ []) c z (w + 0) (z + (w + 0)) on_pf one_pf
    (held_more site tables Ios [] d w 0 (w + 0) on_ios one_ios refl refl) refl) refl) sum

-- the line of numbers that are those of rows
pub line_of : (n : ℕ) (line : List ℕ) (fresh fresh_rows est est_rows placed : ℕ) → fresh ≡ fresh_rows → est ≡ est_rows → line ≡ load_line n fresh est placed
    → line ≡ load_line n fresh_rows est_rows placed
line_of n line fresh fresh_rows est est_rows placed e d said = said ∙ ap (λ x. load_line n x est placed) e ∙ ap (λ x. load_line n fresh_rows x placed) d
