use Rattle.rustshuttle.proofs.Bringing.{fewer_left}
use Rattle.rustshuttle.proofs.endpoint.Endpoint.bring.Goals as goal
