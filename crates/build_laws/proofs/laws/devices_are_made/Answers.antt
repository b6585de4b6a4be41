-- What a device's step gives.
use Rattle.build_laws.proofs.DeviceValues.{device_is}
use Rattle.build_laws.proofs.laws.devices_are_made.Goals as goal

pub returns : goal.returns
returns c = device_is
