-- When a frame's shape is over its limits: 2.
-- Assumes nothing.
use Rattle.std.specs.Prelude.{Bool, ◌||◌, ltb}
use Rattle.ir.specs.declared.frame.Shape.{Shape}

-- over 256 steps, or 65,536 of anything else
unfoldable pub over_shape : Shape → Bool
over_shape s =
    ltb 256 s.steps || ltb 65536 s.main || ltb 65536 s.aux || ltb 65536 s.challenges || ltb 65536 s.alphas
