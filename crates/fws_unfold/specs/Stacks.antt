-- The frames of a stack.
use Rattle.std.specs.Prelude.{◌≡◌, ℕ, List, [], ◌∷◌, length}
use Rattle.fws_unfold.specs.declared.frame.Frame.{Frame}
use Rattle.fws_unfold.specs.declared.stack.Call.{Call}
use Rattle.fws_unfold.specs.declared.stack.Stack.{Stack}

-- a frame by what it has besides its starts, and these
abbrev pub frame_of : Call → List ℕ → Frame
frame_of call starts = record { chain = call.chain; back = call.back; left = call.left; starts = starts; next = call.next }

abbrev pub joined : List Call → List (List ℕ) → List Frame
joined [] _ = []
joined (call ∷ calls) [] = []
joined (call ∷ calls) (s ∷ ss) = frame_of call s ∷ joined calls ss

abbrev pub frames_of : Stack → List Frame
frames_of stack = joined stack.calls.items stack.starts.items

-- each frame has its starts
abbrev pub IsEven : Stack → Type 0
IsEven stack = length stack.calls.items ≡ length stack.starts.items
