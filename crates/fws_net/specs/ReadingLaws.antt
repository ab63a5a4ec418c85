-- Laws of reading: what the first refused line is.
use Rattle.std.specs.Prelude.{◌≡◌, Result, Ok, Err, List}
use Rattle.fws_num.specs.declared.lines.Line.{Line}
use Rattle.fws_net.specs.Reading.{Refusal, lines_read, AreRead, IsFirstRefused}

-- the lines are refused exactly where one of them is refused by itself and every line ahead of it is read, at its number
-- and for its cause; and where they are read, each is read after those ahead of it
pub record FirstRefusedDecides (S C : Type 0) : Type 0 where
  pub refused : (step : S → Line → Result S C) (start : S) (ls : List Line) (r : Refusal C) → lines_read step start ls ≡ Err r → IsFirstRefused step start ls r
  pub decides : (step : S → Line → Result S C) (start : S) (ls : List Line) (r : Refusal C) → IsFirstRefused step start ls r → lines_read step start ls ≡ Err r
  pub read : (step : S → Line → Result S C) (start end_state : S) (ls : List Line) → lines_read step start ls ≡ Ok end_state → AreRead step start ls end_state
