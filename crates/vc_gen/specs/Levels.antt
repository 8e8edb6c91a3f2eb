-- The layers that levels of the code are.
use Rattle.std.specs.Prelude.{List, map}
use Rattle.kernel_lang.specs.Plain.{guard_of}
use Rattle.kernel_lang.specs.Running.{Layer, layer}
use Rattle.vc_gen.specs.declared.level.Level.{Level}

abbrev pub layer_seen : Level → Layer
layer_seen y = layer y.over (guard_of y.guard)

abbrev pub layers_seen : List Level → List Layer
layers_seen ys = map layer_seen ys
