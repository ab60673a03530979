-- `service_fields::parameters_in` meets its contract, by what the ident number and the version ensure.
use Rattle.service_fields.specs.Service.{parameters_in}
use Rattle.service_fields.proofs.parameters_in.Goals as goal

pub returns : goal.returns
unfolding parameters_in
returns c =
    simp (c.join16.ensures, c.extension_in-extension.ensures)
