-- Lost pairs.
use Rattle.std.specs.Prelude.{ℕ, Bool, ◌&&◌, not, nat_eq, List}
use Rattle.fws_net.specs.declared.site.Site.{Site}
use Rattle.fws_net.specs.Routes.{is_local}
use Rattle.fws_box.specs.declared.field.Field.TheVariants as fields
use Rattle.fws_box.specs.Fields.{value_of}

-- the pair of a point is lost: it arrives, is sent to another host, and the site doesn't forward
abbrev pub is_lost_at : Site → List ℕ → Bool
is_lost_at site p = not site.forwarding && (not (nat_eq (value_of p fields.Entry) 0) && not (is_local site (value_of p fields.SentDst)))
