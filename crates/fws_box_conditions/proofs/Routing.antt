-- Routes and addresses of a site.
use Rattle.std.proofs.Common.{◌≡◌, ℕ, ◌-◌, ◌^◌, ◌<◌, ◌≤◌, Bool, true, false, ◌&&◌, ◌||◌, not, nat_lt, List, get_or, refl, sym, ap, ◌∙◌, arith}
use Rattle.std.proofs.lemmas.Bool.{lt-ltb}
use Rattle.fws_box.specs.Sides.{IsWithin}
use Rattle.fws_net.specs.declared.site.Site.{Site}
use Rattle.fws_net.specs.Points.{tops_of}
use Rattle.fws_box_conditions.proofs.Showing.{within_top}

-- all entries were tried
pub all_tried : (r past entry : ℕ) (b : Bool) → r < past → past ≤ entry → (nat_lt r entry && b) ≡ b
all_tried r past entry b lt le = ap (λ t. t && b) (lt-ltb r entry (omega arith))

-- the addresses of a point have 32 bits
pub dst_low : (site : Site) (p : List ℕ) → IsWithin (tops_of site) p → get_or p 2 0 < 2 ^ 32
dst_low site p w = let le : get_or p 2 0 ≤ 2 ^ 32 - 1 = within_top (tops_of site) p 2 w (omega arith) in omega arith

pub sent_dst_low : (site : Site) (p : List ℕ) → IsWithin (tops_of site) p → get_or p 8 0 < 2 ^ 32
sent_dst_low site p w = let le : get_or p 8 0 ≤ 2 ^ 32 - 1 = within_top (tops_of site) p 8 w (omega arith) in omega arith

-- and the flags 6
pub flags_low : (site : Site) (p : List ℕ) → IsWithin (tops_of site) p → get_or p 6 0 < 64
flags_low site p w = let le : get_or p 6 0 ≤ 63 = within_top (tops_of site) p 6 w (omega arith) in omega arith

and_true : (b : Bool) → (b && true) ≡ b
and_true true = refl
and_true false = refl

-- what is sent there and isn't local, told by sets
pub sent_there : (there routed local asked low own : Bool) → there ≡ (routed && not local) → routed ≡ (asked && low) → local ≡ own → low ≡ true
    → there ≡ (asked && not own)
sent_there there routed local asked low own e f g h =
    e ∙ ap (λ b. b && not local) (f ∙ ap (λ b. asked && b) h ∙ and_true asked) ∙ ap (λ b. asked && not b) g

-- it is sent from everywhere where the site forwards
pub from_all : (there x forwarding host : Bool) → there ≡ x → forwarding ≡ true → there ≡ (x && (forwarding || host))
from_all there x forwarding host e f = e ∙ sym (and_true x) ∙ ap (λ b. x && (b || host)) (sym f)

-- else from the host
pub from_host : (there x forwarding host : Bool) → there ≡ x → forwarding ≡ false → (there && host) ≡ (x && (forwarding || host))
from_host there x forwarding host e f = ap (λ b. b && host) e ∙ ap (λ b. x && (b || host)) (sym f)
