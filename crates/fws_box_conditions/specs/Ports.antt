-- The port of a packet that has one, as it stands.
use Rattle.std.specs.Prelude.{ℕ, unwrap_or}
use Rattle.fws_box_conditions.specs.declared.scene.Standing.{Standing}
use Rattle.fws_box_conditions.specs.declared.scene.Standing.TheVariants.{Entered, Written, Tracked}

-- a port that was p and with which the connection sends r, for a protocol with ports
abbrev pub carried_port : Standing → ℕ → ℕ → ℕ
carried_port Entered p r = p
carried_port (Written e) p r = unwrap_or e.port p
carried_port Tracked p r = r
